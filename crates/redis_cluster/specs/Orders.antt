-- The order in which the parts of a command are sent, and the tuples of some slots.
use Rattle.std.specs.Prelude.{◌≡◌, ℕ, ◌<◌, List, All, filter, count_by, nat_eq, slice_get}
use Rattle.std.specs.List.{flat_map, list_any}
use Rattle.std.specs.Option.{option_to_list}
use Rattle.cluster_slots.specs.KeySlot.{key_slot}
use Rattle.redis_cluster.specs.MultiKey.{KeyTuple}

-- how often a number stands in a list
abbrev pub times : ℕ → List ℕ → ℕ
times number list = count_by (λ x. nat_eq number x) list

-- each number below n stands in the order once, and no other does
pub record NamesOnce (n : ℕ) (order : List ℕ) : Type 0 where
  pub below : All (λ number. number < n) order
  pub once : (number : ℕ) → number < n → times number order ≡ 1

-- the elements at these places, in this order
abbrev pub in_order : {X : Type 0} → List X → List ℕ → List X
in_order xs order = flat_map (λ place. option_to_list (slice_get xs place)) order

-- the tuples whose key has one of the slots, in their order
abbrev pub tuples_of_slots : List ℕ → List KeyTuple → List KeyTuple
tuples_of_slots slots tuples =
    filter (λ t. list_any (λ slot. nat_eq (key_slot t.key) slot) slots) tuples
