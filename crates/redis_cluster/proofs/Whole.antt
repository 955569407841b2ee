-- A command in parts, one for each slot, sent in an order that names each once: the keyspace in the end, and where the sends stop.
use Rattle.std.proofs.Common.{◌≡◌, ℕ, ◌+◌, ◌<◌, ◌≤◌, List, [], ◌∷◌, Some, All, ◌∙◌, length, take, get_or, arith}
use Rattle.std.specs.Prelude.{slice_get}
use Rattle.std.proofs.lemmas.List.Elements.{All-head, All-tail}
use Rattle.cluster_slots.specs.KeySlot.{key_slot}
use Rattle.redis_cluster.specs.MultiKey.{KeyTuple, tuples_of_slot}
use Rattle.redis_cluster.specs.Unsplit.{Act, Keyspace, after, results}
use Rattle.redis_cluster.specs.Orders.{times, NamesOnce, in_order, tuples_of_slots}
use Rattle.redis_cluster.specs.SlotItems.{items_of_slot}
use Rattle.redis_cluster.proofs.Fold.{joined, NamesSlots, joined_is_whole, joined_is_of_slots}
use Rattle.redis_cluster.proofs.Parts.{one_part_more, results_one_more}
use Rattle.redis_cluster.proofs.Orders.{times-in_order, apart_front, not_before, in_order_more}

-- a list names the slots of tuples if it has the slot of each of them once
pub names_slots_from : (slots : List ℕ) (ts : List KeyTuple) → All (λ t. times (key_slot t.key) slots ≡ 1) ts → NamesSlots slots ts
names_slots_from slots [] h = tt
names_slots_from slots (t ∷ ts) h = (All-head (λ x. times (key_slot x.key) slots ≡ 1) t ts h, names_slots_from slots ts (All-tail (λ x. times (key_slot x.key) slots ≡ 1) t ts h))

-- slots that are named are so in another order too
pub names_slots-in_order : (slots order : List ℕ) (ts : List KeyTuple) → NamesOnce (length slots) order → NamesSlots slots ts
    → NamesSlots (in_order slots order) ts
names_slots-in_order slots order [] names h = tt
names_slots-in_order slots order (t ∷ ts) names h = (times-in_order (key_slot t.key) slots order names ∙ h.0, names_slots-in_order slots order ts names h.1)

module _ {C : Type 0} (act : Act C) (slots order : List ℕ) (ts : List KeyTuple) (ks : Keyspace C) where
  -- After all parts the keyspace is what the command leaves that is not split.
  pub keyspace_of_all : NamesOnce (length slots) order → NamesSlots slots ts → after act (joined (in_order slots order) ts) ks ≡ after act ts ks
  keyspace_of_all names named = joined_is_whole act (in_order slots order) ts ks (names_slots-in_order slots order ts names named)

  -- After the first parts of an order the keyspace is what the tuples of their slots leave, in the order of the arguments.
  pub keyspace_at_stop : (i : ℕ) → NamesOnce (length slots) order → ((n : ℕ) → times n slots ≤ 1)
      → after act (joined (in_order slots (take i order)) ts) ks ≡ after act (tuples_of_slots (in_order slots (take i order)) ts) ks
  keyspace_at_stop i names apart = joined_is_of_slots act (in_order slots (take i order)) ts ks (λ n. apart_front slots order i n names (apart n))

  -- One part more leaves what the parts leave with one place more of the order.
  pub keyspace_more : (i k slot : ℕ) → i < length order → k ≡ get_or order i 0 → slice_get slots k ≡ Some slot
      → after act (tuples_of_slot slot ts) (after act (joined (in_order slots (take i order)) ts) ks) ≡ after act (joined (in_order slots (take (i + 1) order)) ts) ks
  keyspace_more i k slot within at is = grind (arith, one_part_more, joined, in_order_more)

  -- The tuples of the next part add what they add to the reply to the whole command.
  pub results_more : (i k slot : ℕ) → NamesOnce (length slots) order → ((n : ℕ) → times n slots ≤ 1) → i < length order
      → k ≡ get_or order i 0 → slice_get slots k ≡ Some slot
      → results act (tuples_of_slot slot ts) (after act (joined (in_order slots (take i order)) ts) ks) ≡ items_of_slot slot ts (results act ts ks)
  results_more i k slot names apart within at is = results_one_more act (in_order slots (take i order)) slot ts ks (not_before slots order i k slot names apart within at is)
