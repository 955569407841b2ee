-- The sum of the counts of a command's parts is the count of the whole command.
use Rattle.std.proofs.Common.{◌≡◌, ℕ, ◌+◌, ◌<◌, ◌^◌, List, [], ◌∷◌, true, cond, None, Some, map, length, fold, refl, ap, ◌∙◌, arith, pos, ◌+ℤ◌}
use Rattle.std.specs.Prelude.{count_by, option_map, option_and_then, sum_by}
use Rattle.std.proofs.lemmas.Int.{ints}
use Rattle.std.proofs.lemmas.Grind.{common_steps}
use Rattle.resp_core.specs.Reply.{int}
use Rattle.cluster_slots.specs.declared.aggregate_op.AggregateOp.TheVariants.{Sum}
use Rattle.redis_combiners.specs.Aggregate.{aggregate_of, fits_i64, in_i64, numbers, total}
use Rattle.redis_cluster.specs.MultiKey.{KeyTuple, count}
use Rattle.redis_cluster.specs.SlotItems.{items_of_slot}
use Rattle.redis_cluster.specs.Unsplit.{TupleResult, reply_by}
use Rattle.redis_cluster.proofs.Fold.{NamesSlots}
use Rattle.redis_cluster.proofs.Totals.{count-le-tuples, sum-items_of_slot}

module _ {X : Type 0} (f : X → ℕ) where
  numbers_are : (xs : List X) → numbers (map (λ x. int (pos (f x))) xs) ≡ Some (map (λ x. pos (f x)) xs)
  numbers_are [] = refl
  numbers_are (x ∷ xs) = ap (option_map (λ ns. pos (f x) ∷ ns)) (numbers_are xs)

  total_from : (a : ℕ) (xs : List X) → fold ◌+ℤ◌ (pos a) (map (λ x. pos (f x)) xs) ≡ pos (a + sum_by f xs)
  total_from a [] = ap pos (omega arith)
  total_from a (x ∷ xs) = grind (arith, common_steps, total_from (a + f x) xs)

small_fits : (n : ℕ) → n < 2 ^ 63 → fits_i64 (pos n) ≡ true
small_fits n l = grind (arith, ints)

-- the counts of the parts are added up to that of all tuples
pub counts_joined : (slots : List ℕ) (ts : List KeyTuple) (rs : List TupleResult) → length rs ≡ length ts → length ts < 2 ^ 63 → NamesSlots slots ts
    → aggregate_of Sum (map (λ slot. reply_by count (items_of_slot slot ts rs)) slots) ≡ Some (reply_by count rs)
counts_joined slots ts rs l few named =
    let of_slot : ℕ → ℕ = λ slot. count_by (λ r. r.counts) (items_of_slot slot ts rs) in
    let whole : sum_by of_slot slots ≡ count_by (λ r. r.counts) rs = sum-items_of_slot (λ r. cond r.counts 1 0) slots ts rs l named in
    let sum_is : total (map (λ slot. pos (of_slot slot)) slots) ≡ pos (count_by (λ r. r.counts) rs) = total_from of_slot 0 slots ∙ ap pos (omega (arith, whole)) in
    let small : count_by (λ r. r.counts) rs < 2 ^ 63 = omega (arith, count-le-tuples ts rs l) in
    ap (λ ns. option_map int (option_and_then (λ zs. in_i64 (total zs)) ns)) (numbers_are of_slot slots)
    ∙ ap (λ z. option_map int (in_i64 z)) sum_is
    ∙ ap (λ b. option_map int (cond b (Some (pos (count_by (λ r. r.counts) rs))) None)) (small_fits (count_by (λ r. r.counts) rs) small)
