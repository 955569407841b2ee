-- The order of the replies does not count for their bits.
use Rattle.std.proofs.Common.{◌≡◌, ℕ, Bool, true, false, cond, eqb, List, [], ◌∷◌, length, Some, None, refl, ap, sym, ◌∙◌, eq-eqb, eqb-true, arith}
use Rattle.std.proofs.lemmas.Grind.{common_steps}
use Rattle.std.specs.Prelude.{option_map, option_and_then, not, ◌&&◌, slice_index_or}
use Rattle.std.specs.List.{range_with_len, list_all, list_any}
use Rattle.std.specs.List.Sorted.{IsPermutation}
use Rattle.std.proofs.lemmas.List.Sorted.{IsPermutation-map, length_permutation, list_any-IsPermutation}
use Rattle.resp_core.specs.Reply.{Reply, array_of}
use Rattle.resp_core.proofs.Cases.{by_test}
use Rattle.cluster_slots.specs.declared.aggregate_op.LogicalAggregateOp.{LogicalAggregateOp}
use Rattle.cluster_slots.specs.declared.aggregate_op.LogicalAggregateOp.TheVariants.{And, Or}
use Rattle.redis_combiners.specs.Bits.{bits_among}
use Rattle.redis_combiners.specs.Logical.{as_int, column, combined_bit, combined_bits, common_length, logical_items}
use Rattle.redis_combiners.proofs.JoinedBits.{map_same}
use Rattle.redis_combiners.proofs.Lists.{any_order_of}

-- all pass a test where none fails it
all_pass : {X : Type 0} (p : X → Bool) (xs : List X) → list_all p xs ≡ not (list_any (λ x. not (p x)) xs)
all_pass p [] = refl
all_pass {X} p (x ∷ xs) = grind (arith, common_steps, all_pass p xs)

all_in_any_order : {X : Type 0} (p : X → Bool) (xs ys : List X) → IsPermutation xs ys → list_all p ys ≡ list_all p xs
all_in_any_order p xs ys h = grind (arith, all_pass, list_any-IsPermutation)

bit_in_any_order : (op : LogicalAggregateOp) (xs ys : List Bool) → IsPermutation xs ys → combined_bit op ys ≡ combined_bit op xs
bit_in_any_order And xs ys h = all_in_any_order (λ bit. bit) xs ys h
bit_in_any_order Or xs ys h = sym (list_any-IsPermutation (λ bit. bit) xs ys h)

bits_in_any_order : (op : LogicalAggregateOp) (xs ys : List (List Bool)) (width : ℕ) → IsPermutation xs ys → combined_bits op ys width ≡ combined_bits op xs width
bits_in_any_order op xs ys width h =
    map_same _ _ (λ k. ap as_int (bit_in_any_order op (column xs k) (column ys k) (IsPermutation-map (λ row. slice_index_or row k false) xs ys h))) (range_with_len 0 width)

-- whether all rows are of this length
abbrev all_of : ℕ → List (List Bool) → Bool
all_of n rows = list_all (λ row. eqb (length row) n) rows

-- the length that is common to the rows, by each of them
length_by : (x : List Bool) (xs : List (List Bool)) → common_length (x ∷ xs) ≡ cond (all_of (length x) (x ∷ xs)) (Some (length x)) None
length_by x xs = ap (λ b. cond (b && all_of (length x) xs) (Some (length x)) None) (sym (eq-eqb (length x) (length x) refl))

is_own : (x : List Bool) (xs : List (List Bool)) (n : ℕ) → all_of n (x ∷ xs) ≡ true → length x ≡ n
is_own x xs n e = by_test (eqb (length x) n) (λ t. eqb-true (length x) n t) (λ f. absurd (cc))

length_in_any_order : (xs ys : List (List Bool)) → IsPermutation xs ys → common_length ys ≡ common_length xs
length_in_any_order [] [] h = refl
length_in_any_order [] (y ∷ ys) h = absurd (omega (arith, length_permutation [] (y ∷ ys) h))
length_in_any_order (x ∷ xs) [] h = absurd (omega (arith, length_permutation (x ∷ xs) [] h))
length_in_any_order (x ∷ xs) (y ∷ ys) h =
    let same : (n : ℕ) → all_of n (y ∷ ys) ≡ all_of n (x ∷ xs) = λ n. all_in_any_order (λ row. eqb (length row) n) (x ∷ xs) (y ∷ ys) h in
    length_by y ys
    ∙ by_test (all_of (length y) (y ∷ ys))
    (λ t. let e : length x ≡ length y = is_own x xs (length y) (sym (same (length y)) ∙ t) in
    ap (λ b. cond b (Some (length y)) None) (same (length y))
    ∙ ap (λ n. cond (all_of n (x ∷ xs)) (Some n) None) (sym e))
    (λ f. by_test (all_of (length x) (x ∷ xs))
    (λ t. let e : length y ≡ length x = is_own y ys (length x) (same (length x) ∙ t) in
    absurd (let g : all_of (length x) (y ∷ ys) ≡ false = ap (λ n. all_of n (y ∷ ys)) (sym e) ∙ f in let k : all_of (length x) (y ∷ ys) ≡ true = same (length x) ∙ t in cc))
    (λ g. ap (λ b. cond b (Some (length y)) None) f ∙ sym (ap (λ b. cond b (Some (length x)) None) g)))
    ∙ sym (length_by x xs)

rows_in_any_order : (op : LogicalAggregateOp) (xs ys : List (List Bool)) → IsPermutation xs ys → option_map (combined_bits op ys) (common_length ys) ≡ option_map (combined_bits op xs) (common_length xs)
rows_in_any_order op xs ys h = grind (arith, common_steps, length_in_any_order, bits_in_any_order)

pub any_order : (op : LogicalAggregateOp) (rs others : List Reply) → IsPermutation rs others → logical_items op others ≡ logical_items op rs
any_order op rs others h = any_order_of (λ reply. option_and_then bits_among (array_of reply)) [] (λ rows. option_map (combined_bits op rows) (common_length rows)) (rows_in_any_order op) rs others h
