-- The places of keys of a list, tuple by tuple.
use Rattle.std.proofs.Common.{◌≡◌, ℕ, zero, suc, ◌+◌, ◌-◌, ◌*◌, ◌/◌, ◌%◌, ◌<◌, ◌≤◌, List, [], ◌∷◌, length, map, drop, Some, refl, ap, sym, ◌∙◌, arith, cond, eqb, slice_index}
use Rattle.std.proofs.lemmas.Grind.{common_steps}
use Rattle.std.specs.Prelude.{filter}
use Rattle.std.specs.List.{range_with_len, enumerate_from}
use Rattle.std.proofs.lemmas.Bool.{eq-eqb, ne_eqb}
use Rattle.std.proofs.lemmas.List.{length-drop, get_or-drop}
use Rattle.std.proofs.lemmas.List.FromFn.{length-map-range_with_len}
use Rattle.std.proofs.lemmas.Nat.{mod-mul-add}
use Rattle.std.proofs.lemmas.Simd.{map-map}
use Rattle.cluster_slots.specs.ArgPattern.{width_of}
use Rattle.cluster_slots.specs.declared.arg_pattern.MultiSlotArgPattern.{MultiSlotArgPattern}
use Rattle.cluster_slots.proofs.ArgPatterns.{some_width}
use Rattle.redis_combiners.specs.KeyPlaces.{tuple_places, own_arguments, places}

-- every width-th number, where the first stands at a place of a longer list
abbrev every_nth_from : ℕ → ℕ → List ℕ → List ℕ
every_nth_from w at xs = map (λ e. e.1) (filter (λ e. eqb (e.0 % w) 0) (enumerate_from at xs))

-- the numbers before the next multiple of the width do not count
skip : (w a j m at : ℕ) (xs : List ℕ) → 0 < j → j + m ≤ w → at ≡ a * w + j → m ≤ length xs → every_nth_from w at xs ≡ every_nth_from w (at + m) (drop m xs)
skip w a j zero at xs some below is within = ap (λ n. every_nth_from w n xs) (omega arith)
skip w a j (suc m) at [] some below is within = absurd (omega arith)
skip w a j (suc m) at (x ∷ xs) some below is within = grind (arith, common_steps, mod-mul-add, ne_eqb, skip w a (j + 1) m (at + 1) xs (omega arith) (omega arith) (omega arith) (omega arith))

-- a list of one function's values over a range, and over a later one
shifted : (f g : ℕ → ℕ) (a b n : ℕ) → ((i : ℕ) → f (b + i) ≡ g (a + i)) → map f (range_with_len b n) ≡ map g (range_with_len a n)
shifted f g a b zero h = refl
shifted f g a b (suc n) h =
    ap (λ x. x ∷ map f (range_with_len (b + 1) n)) (ap f (omega arith) ∙ h 0 ∙ ap g (omega arith))
    ∙ ap (λ xs. g a ∷ xs) (shifted f g (a + 1) (b + 1) n (λ i. ap f (omega arith) ∙ h (1 + i) ∙ ap g (omega arith)))

every_nth_is : (w a n : ℕ) (xs : List ℕ) → 0 < w → length xs ≡ n * w → every_nth_from w (a * w) xs ≡ map (λ i. slice_index xs (w * i)) (range_with_len 0 n)
every_nth_is w a zero [] some long = refl
every_nth_is w a zero (x ∷ xs) some long = absurd (omega (arith, long))
every_nth_is w a (suc n) [] some long = absurd (omega (arith, long))
every_nth_is w a (suc n) (x ∷ xs) some long =
    let first : (a * w) % w ≡ 0 = ap (λ m. m % w) (omega arith) ∙ mod-mul-add a w 0 some in
    let rest : length (drop (w - 1) xs) ≡ n * w = omega (arith, length-drop (w - 1) xs, long) in
    ap (λ b. map (λ e. e.1) (cond b ((a * w, x) ∷ filter (λ e. eqb (e.0 % w) 0) (enumerate_from (a * w + 1) xs)) (filter (λ e. eqb (e.0 % w) 0) (enumerate_from (a * w + 1) xs)))) (eq-eqb ((a * w) % w) 0 first)
    ∙ ap (λ ys. x ∷ ys) (
    skip w a 1 (w - 1) (a * w + 1) xs (omega arith) (omega arith) (omega arith) (omega (arith, long))
    ∙ ap (λ m. every_nth_from w m (drop (w - 1) xs)) (omega arith)
    ∙ every_nth_is w (a + 1) n (drop (w - 1) xs) some rest
    ∙ sym (shifted (λ i. slice_index (x ∷ xs) (w * i)) (λ i. slice_index (drop (w - 1) xs) (w * i)) 0 1 n (λ i. ap (slice_index (x ∷ xs)) (later i) ∙ sym (get_or-drop (w - 1) xs (w * (0 + i)) 0))))
    ∙ ap (λ m. slice_index (x ∷ xs) m ∷ map (λ i. slice_index (x ∷ xs) (w * i)) (range_with_len 1 n)) none
  where
    none : 0 ≡ w * 0
    none = omega arith

    later : (i : ℕ) → w * (1 + i) ≡ suc (w - 1 + w * (0 + i))
    later i = omega (arith, some)

-- the places of a list, by how many tuples it has
abbrev pub heads : ℕ → List ℕ → ℕ → List ℕ
heads w xs n = map (λ i. slice_index xs (w * i) / w) (range_with_len 0 n)

tuple_places_are : (w : ℕ) (xs : List ℕ) → 0 < w → length xs % w ≡ 0 → tuple_places w xs ≡ Some (heads w xs (length xs / w))
tuple_places_are w xs some whole = grind (arith, common_steps, eq-eqb (length xs % w) 0 whole, every_nth_is w 0 (length xs / w) xs some (omega (arith, whole)), map-map, slice_index)

pub places_are : (pattern : MultiSlotArgPattern) (list own : List ℕ) (w : ℕ) → w ≡ width_of pattern → Some own ≡ own_arguments pattern list → length own % w ≡ 0 → places pattern list ≡ Some (heads w own (length own / w))
places_are pattern list own w same is whole = grind (arith, tuple_places_are, some_width)

pub length-heads : (w n : ℕ) (xs : List ℕ) → length (heads w xs n) ≡ n
length-heads w n xs = length-map-range_with_len (λ i. slice_index xs (w * i) / w) 0 n
