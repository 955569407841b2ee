-- What the parts count is, in all, what the whole command counts.
use Rattle.std.proofs.Common.{◌≡◌, ℕ, ◌+◌, ◌*◌, ◌≤◌, List, [], ◌∷◌, cond, filter, sym, ap, ◌∙◌, arith, length, map}
use Rattle.std.specs.Prelude.{nat_eq, count_by}
use Rattle.std.specs.List.{sum_by, zip}
use Rattle.std.proofs.lemmas.List.Sums.{sum_by-cons, count_by-le-length}
use Rattle.std.proofs.lemmas.Grind.{common_steps}
use Rattle.cluster_slots.specs.KeySlot.{key_slot}
use Rattle.redis_cluster.specs.MultiKey.{KeyTuple}
use Rattle.redis_cluster.specs.Unsplit.{TupleResult}
use Rattle.redis_cluster.specs.SlotItems.{items_of_slot}
use Rattle.redis_cluster.proofs.Counts.{sum_none, sum_both, sum_at, once_times}
use Rattle.redis_cluster.proofs.Fold.{NamesSlots}

-- sums of equal numbers are equal
both : (a b c d : ℕ) → a ≡ b → c ≡ d → a + c ≡ b + d
both a b c d e f = omega arith

-- one tuple more adds its result to the sum of its slot
sum-items_of_slot-cons : (w : TupleResult → ℕ) (slot : ℕ) (t : KeyTuple) (r : TupleResult) (others : List (KeyTuple × TupleResult))
    → sum_by w (map (λ p. p.1) (cond (nat_eq (key_slot t.key) slot) ((t, r) ∷ others) others)) ≡ cond (nat_eq (key_slot t.key) slot) (w r) 0 + sum_by w (map (λ p. p.1) others)
sum-items_of_slot-cons w slot t r others = grind (arith, common_steps)

-- a sum over all results is the sum of those over the results of each slot
pub sum-items_of_slot : (w : TupleResult → ℕ) (slots : List ℕ) (ts : List KeyTuple) (rs : List TupleResult) → length rs ≡ length ts → NamesSlots slots ts
    → sum_by (λ slot. sum_by w (items_of_slot slot ts rs)) slots ≡ sum_by w rs
sum-items_of_slot w slots [] [] l named = sum_none slots
sum-items_of_slot w slots [] (r ∷ rs) l named = absurd (omega arith)
sum-items_of_slot w slots (t ∷ ts) [] l named = absurd (omega arith)
sum-items_of_slot w slots (t ∷ ts) (r ∷ rs) l named =
    let s = key_slot t.key in
    sum_both (λ slot. cond (nat_eq s slot) (w r) 0) (λ slot. sum_by w (items_of_slot slot ts rs)) (λ slot. sum_by w (items_of_slot slot (t ∷ ts) (r ∷ rs)))
    (λ slot. sum-items_of_slot-cons w slot t r (filter (λ p. nat_eq (key_slot p.0.key) slot) (zip ts rs))) slots
    ∙ both _ (w r) _ (sum_by w rs) (sum_at s (w r) slots ∙ ap (λ n. n * w r) named.0 ∙ once_times (w r)) (sum-items_of_slot w slots ts rs (omega arith) named.1)
    ∙ sym (sum_by-cons w r rs)

-- no more results count than there are tuples
pub count-le-tuples : (ts : List KeyTuple) (rs : List TupleResult) → length rs ≡ length ts → count_by (λ r. r.counts) rs ≤ length ts
count-le-tuples ts rs l = omega (arith, count_by-le-length (λ r. r.counts) rs)
