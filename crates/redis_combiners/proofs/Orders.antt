-- The order of the replies does not count.
use Rattle.std.proofs.Common.{◌≡◌, ℕ, ◌+◌, List, [], ◌∷◌, sym, ap, refl, arith, fold, ℤ, pos, ◌+ℤ◌, ◌≤ℤ◌, Option, Some, None, ⊎_elim, subst}
use Rattle.std.proofs.lemmas.Grind.{common_steps}
use lib.IntN.{negsuc}
use Rattle.std.specs.Prelude.{option_map, option_and_then, sum_by}
use Rattle.std.specs.Int.{int_min}
use Rattle.std.specs.List.Sorted.{IsPermutation}
use Rattle.std.proofs.lemmas.Int.{ints, fold-int_min_bounds, fold-int_min_reached}
use Rattle.std.proofs.lemmas.List.Sorted.{IsPermutation-sym, sum_by-IsPermutation, Contains-permutation}
use Rattle.std.proofs.lemmas.List.Sums.{sum_by-cons}
use Rattle.std.proofs.lemmas.List.Elements.{All-contains}
use borrow.Author.Differences.{up, down}
use Rattle.resp_core.specs.Reply.{Reply, int_of, int}
use Rattle.cluster_slots.specs.declared.aggregate_op.AggregateOp.{AggregateOp}
use Rattle.cluster_slots.specs.declared.aggregate_op.AggregateOp.TheVariants.{Min, Sum}
use Rattle.redis_combiners.specs.Aggregate.{numbers, in_i64, total, aggregate_of}
use Rattle.redis_combiners.proofs.Lists.{any_order_of}

-- what is made of the numbers, where their order does not count
same_of : (f : List ℤ → Option ℤ) → ((xs ys : List ℤ) → IsPermutation xs ys → f ys ≡ f xs) → (rs others : List Reply) → IsPermutation rs others → option_and_then f (numbers others) ≡ option_and_then f (numbers rs)
same_of f same rs others h = any_order_of int_of (pos 0) f same rs others h

total_step : (t a x : ℤ) (d u : ℕ) → t +ℤ pos d ≡ (a +ℤ x) +ℤ pos u → t +ℤ pos (down x + d) ≡ a +ℤ pos (up x + u)
total_step t a (pos n) d u e = omega (arith, ints)
total_step t a (negsuc n) d u e = omega (arith, ints)

total_parts : (a : ℤ) (xs : List ℤ) → fold ◌+ℤ◌ a xs +ℤ pos (sum_by down xs) ≡ a +ℤ pos (sum_by up xs)
total_parts a [] = refl
total_parts a (x ∷ xs) = grind (arith, common_steps, sum_by-cons down x xs, sum_by-cons up x xs, total_step (fold ◌+ℤ◌ (a +ℤ x) xs) a x (sum_by down xs) (sum_by up xs) (total_parts (a +ℤ x) xs), total_parts (a +ℤ x) xs)

total_same : (xs ys : List ℤ) → IsPermutation xs ys → total ys ≡ total xs
total_same xs ys h = grind (arith, common_steps, total_parts (pos 0) xs, total_parts (pos 0) ys, sum_by-IsPermutation up xs ys h, sum_by-IsPermutation down xs ys h, ints)

least_below : (a : ℤ) (xs ys : List ℤ) → IsPermutation xs ys → fold int_min a xs ≤ℤ fold int_min a ys
least_below a xs ys h =
    let low = fold-int_min_bounds a xs (fold int_min a xs) refl in
    ⊎_elim (λ e. subst (λ z. fold int_min a xs ≤ℤ z) (sym e) low.0)
    (λ there. All-contains (λ x. fold int_min a xs ≤ℤ x) xs (fold int_min a ys) low.1 (Contains-permutation ys xs (fold int_min a ys) (IsPermutation-sym xs ys h) there))
    (fold-int_min_reached a ys (fold int_min a ys) refl)

least_same : (a : ℤ) (xs ys : List ℤ) → IsPermutation xs ys → fold int_min a ys ≡ fold int_min a xs
least_same a xs ys h = grind (arith, common_steps, least_below a xs ys h, least_below a ys xs (IsPermutation-sym xs ys h), IsPermutation-sym xs ys h, ints)

mapped : (f : List ℤ → ℤ) (o : Option (List ℤ)) → option_map f o ≡ option_and_then (λ ns. Some (f ns)) o
mapped f None = refl
mapped f (Some ns) = refl

pub any_order : (op : AggregateOp) (rs others : List Reply) → IsPermutation rs others → aggregate_of op others ≡ aggregate_of op rs
any_order Sum rs others h = ap (option_map int) (same_of (λ ns. in_i64 (total ns)) (λ xs ys p. ap in_i64 (total_same xs ys p)) rs others h)
any_order Min rs others h = grind (arith, fold, pos, mapped, same_of, least_same)
