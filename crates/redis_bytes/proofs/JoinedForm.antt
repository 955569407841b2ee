-- The one reply that replies to the parts of a command make has a form if these have.
use Rattle.std.proofs.Common.{◌≡◌, ◌<◌, ◌≤◌, ◌+◌, ◌-◌, ℕ, ℤ, pos, negsuc, List, [], ◌∷◌, Option, Some, None, Result, Ok, length, map, refl, sym, subst, arith}
use Rattle.std.proofs.lemmas.Grind.{common_steps}
use Rattle.std.specs.Prelude.{nat_eq, ok_or, option_and_then, option_map, slice_get}
use Rattle.std.specs.List.{AllByRecursion, AllZip}
use Rattle.std.proofs.lemmas.Bool.{eq-eqb, eqb-true}
use Rattle.std.proofs.lemmas.Bool.Decides.{nat_tests}
use Rattle.std.proofs.lemmas.Option.{same_Some}
use Rattle.resp_core.specs.Reply.{Reply, int, array_of}
use Rattle.resp_core.specs.declared.error.ErrorKind.{ErrorKind}
use Rattle.resp_core.specs.declared.error.ErrorKind.TheVariants.{UnexpectedReturnType}
use Rattle.resp_core.proofs.Cases.{by_test}
use Rattle.resp.specs.Forms.{IsShort}
use Rattle.cluster_slots.specs.KeySlot.{key_slot}
use Rattle.redis_combiners.specs.Aggregate.{in_i64, numbers, total}
use Rattle.redis_routing.specs.Split.{Split, IsSplit, slots_of}
use Rattle.redis_cluster.specs.Joined.{IsOutcome}
use Rattle.redis_cluster.specs.MultiKey.{KeyTuple, ReplyForm, list, count, okay}
use Rattle.redis_cluster.specs.Orders.{times}
use Rattle.redis_cluster.specs.Plan.{IsMadeOfParts, tuples_in_split}
use Rattle.redis_cluster.specs.SlotItems.{items_of_slot}
use Rattle.redis_cluster.proofs.Fold.{NamesSlots}
use Rattle.redis_cluster.proofs.SplitTuples.{ShareOut, share_out}
use Rattle.redis_bytes.proofs.Formed.{IsFormed, array_formed, array_items}

abbrev made_of : Reply → Result Reply ErrorKind
made_of reply = Ok reply

same_made : (r s : Reply) → made_of r ≡ made_of s → r ≡ s
same_made r s e = cc

-- ---- a list

-- what holds of the items of each slot holds of all
all_values : (P : Reply → Type 0) (slots : List ℕ) (ts : List KeyTuple) (values : List Reply) → length values ≡ length ts → NamesSlots slots ts
    → ((slot : ℕ) → times slot slots ≡ 1 → AllByRecursion P (items_of_slot slot ts values)) → AllByRecursion P values
all_values P slots [] [] same named each = tt
all_values P slots [] (v ∷ values) same named each = absurd (omega (arith, same))
all_values P slots (t ∷ ts) [] same named each = tt
all_values P slots (t ∷ ts) (v ∷ values) same named each =
    let own : AllByRecursion P (items_of_slot (key_slot t.key) (t ∷ ts) (v ∷ values)) = each (key_slot t.key) named.0 in
    let first = rw (eq-eqb (key_slot t.key) (key_slot t.key) refl) at own in (
      first.0,
      all_values P slots ts values (omega (arith, same)) named.1 (λ slot once.
          let some : AllByRecursion P (items_of_slot slot (t ∷ ts) (v ∷ values)) = each slot once in
          by_test (nat_eq (key_slot t.key) slot) (λ here. (rw here at some).1) (λ other. rw other at some)),
    )

-- the items of a slot that has a reply have forms
slot_items : (levels limit : ℕ) → limit ≤ levels + 1 → (items : ℕ → List Reply) (slots : List ℕ) (replies : List Reply) → AllZip (λ slot r. array_of r ≡ Some (items slot)) slots replies
    → AllByRecursion (IsFormed limit) replies → (slot : ℕ) → 0 < times slot slots → AllByRecursion (IsFormed levels) (items slot)
slot_items levels limit lower items [] replies are formed slot some = absurd (omega (arith, some))
slot_items levels limit lower items (s ∷ slots) [] are formed slot some = absurd are
slot_items levels limit lower items (s ∷ slots) (r ∷ replies) are formed slot some =
    by_test (nat_eq slot s)
    (λ here. rw (eqb-true slot s here) (array_items levels limit r (items s) lower are.0 formed.0))
    (λ other. slot_items levels limit lower items slots replies are.1 formed.1 slot (rw other at some))

-- ---- a sum

short_in : (n z : ℤ) → in_i64 z ≡ Some n → IsShort n
short_in n (pos k) e = grind (arith, common_steps, nat_tests)
short_in n (negsuc k) e = grind (arith, common_steps, nat_tests)

sum_short : (numbers : Option (List ℤ)) (one : Reply) (limit : ℕ) → ok_or (option_map int (option_and_then (λ ns. in_i64 (total ns)) numbers)) UnexpectedReturnType ≡ made_of one → IsFormed limit one
sum_short None one limit e = absurd cc
sum_short (Some ns) one limit e = of (in_i64 (total ns)) refl e
  where
    of : (n : Option ℤ) → in_i64 (total ns) ≡ n → ok_or (option_map int n) UnexpectedReturnType ≡ made_of one → IsFormed limit one
    of None is e = absurd cc
    of (Some n) is e = subst (IsFormed limit) (same_made (int n) one e) (short_in n (total ns) is, omega arith)

-- ---- the one reply

first_formed : (limit : ℕ) (replies : List Reply) (one : Reply) → AllByRecursion (IsFormed limit) replies → slice_get (map made_of replies) 0 ≡ Some (made_of one) → IsFormed limit one
first_formed limit [] one formed e = absurd cc
first_formed limit (r ∷ replies) one formed e = subst (IsFormed limit) (same_made r one (same_Some (made_of r) (made_of one) e)) formed.0

pub outcome_formed : (limit : ℕ) → 0 < limit → (slots : List ℕ) (ts : List KeyTuple) → ShareOut slots ts → (replies : List Reply) → AllByRecursion (IsFormed limit) replies
    → (form : ReplyForm) (one : Reply) → IsOutcome ts slots replies form (made_of one) → IsFormed limit one
outcome_formed limit some slots ts share replies formed list one is =
    let values = is.0 in
    let items = slot_items (limit - 1) limit (omega (arith, some)) (λ slot. items_of_slot slot ts values) slots replies is.1.of_slots formed in
    let all = all_values (IsFormed (limit - 1)) slots ts values is.1.each share.named (λ slot once. items slot (omega (arith, once))) in
    subst (IsFormed limit) (sym is.2) (array_formed (limit - 1) limit values (omega (arith, some)) (omega (arith, is.1.each, share.few)) all)
outcome_formed limit some slots ts share replies formed count one is = sum_short (numbers replies) one limit is
outcome_formed limit some slots ts share replies formed okay one is = first_formed limit replies one formed is

pub made_formed : (limit : ℕ) → 0 < limit → (split : Split) → IsSplit split → (replies : List Reply) → AllByRecursion (IsFormed limit) replies → (one : Reply) → IsMadeOfParts split replies (made_of one) → IsFormed limit one
made_formed limit some split held replies formed one made =
    outcome_formed limit some (slots_of split.routes) (tuples_in_split split) (share_out split held) replies formed made.form one made.outcome_is
