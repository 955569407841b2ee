-- The tuples of a shape are those of the pattern with the indices of their arguments left out.
use Rattle.std.proofs.Common.{◌≡◌, ℕ, zero, suc, ◌+◌, ◌-◌, ◌*◌, ◌≤◌, List, [], ◌∷◌, true, map, length, take, drop, get_or, refl, ap, arith}
use Rattle.std.specs.Prelude.{slice_get}
use Rattle.std.proofs.Math.Seq.{take-length}
use Rattle.std.specs.Simd.{first_chunks}
use Rattle.std.proofs.lemmas.Bool.Decides.{nat_tests}
use Rattle.cluster_slots.specs.ArgPattern.{is_complete}
use Rattle.cluster_slots.specs.declared.arg_pattern.MultiSlotArgPattern.{MultiSlotArgPattern}
use Rattle.cluster_slots.specs.declared.arg_pattern.MultiSlotArgPattern.TheVariants.{KeysOnly, KeyValuePairs, KeysAndLastArg, KeyWithTwoArgTriples}
use Rattle.redis_routing.specs.Tuples.{keys_alone, keys_and_values, keys_and_two, shared_in}
use Rattle.redis_cluster.specs.MultiKey.{KeyTuple, is_whole, shape_of, tuples_by}
use Rattle.redis_cluster.specs.PlacedTuples.{unplaced, tuples_of}

-- a tuple by its arguments
abbrev tuple_by : List (List ℕ) → KeyTuple
tuple_by t = record { key = get_or t 0 []; extras = drop 1 t }

-- as many arguments are whole by the shape as are complete by the pattern
pub whole_is : (pattern : MultiSlotArgPattern) (m : ℕ) → is_whole (shape_of pattern) m ≡ is_complete pattern m
whole_is pattern m = grind (arith, nat_tests)

-- keys alone are pieces of one
alone : (n place : ℕ) (xs : List (List ℕ)) → n ≤ length xs → map unplaced (keys_alone place (take n xs)) ≡ map tuple_by (first_chunks 1 n xs)
alone zero place xs fit = refl
alone (suc n) place [] fit = absurd (omega arith)
alone (suc n) place (x ∷ xs) fit = ap (λ ts. record { key = x; extras = [] } ∷ ts) (alone n (place + 1) xs (omega arith))

-- keys with one more argument are pieces of two
pairs : (n place : ℕ) (xs : List (List ℕ)) → length xs ≡ n * 2 → map unplaced (keys_and_values place xs) ≡ map tuple_by (first_chunks 2 n xs)
pairs zero place [] fit = refl
pairs zero place (x ∷ xs) fit = absurd (omega arith)
pairs (suc n) place [] fit = absurd (omega arith)
pairs (suc n) place (x ∷ []) fit = absurd (omega arith)
pairs (suc n) place (x ∷ y ∷ xs) fit = ap (λ ts. record { key = x; extras = y ∷ [] } ∷ ts) (pairs n (place + 2) xs (omega arith))

-- keys with two more arguments are pieces of three
triples : (n place : ℕ) (xs : List (List ℕ)) → length xs ≡ n * 3 → map unplaced (keys_and_two place xs) ≡ map tuple_by (first_chunks 3 n xs)
triples zero place [] fit = refl
triples zero place (x ∷ xs) fit = absurd (omega arith)
triples (suc n) place [] fit = absurd (omega arith)
triples (suc n) place (x ∷ []) fit = absurd (omega arith)
triples (suc n) place (x ∷ y ∷ []) fit = absurd (omega arith)
triples (suc n) place (x ∷ y ∷ z ∷ xs) fit = ap (λ ts. record { key = x; extras = y ∷ z ∷ [] } ∷ ts) (triples n (place + 3) xs (omega arith))

-- without an argument in front of it the first one is the next one
get_after : {X : Type 0} (n : ℕ) (xs : List X) → slice_get (drop n xs) 0 ≡ slice_get xs n
get_after zero xs = refl
get_after (suc n) [] = refl
get_after (suc n) (x ∷ xs) = get_after n xs

-- the tuples of complete arguments
pub tuples_are_placed : (pattern : MultiSlotArgPattern) (present : List (List ℕ)) → is_complete pattern (length present) ≡ true → tuples_by (shape_of pattern) present ≡ tuples_of pattern present
tuples_are_placed KeysOnly present complete = grind (arith, alone)
tuples_are_placed KeyValuePairs present complete = grind (arith, nat_tests, take-length, pairs)
tuples_are_placed KeysAndLastArg present complete = grind (arith, alone)
tuples_are_placed KeyWithTwoArgTriples present complete = grind (arith, nat_tests, take-length, triples)

-- and what they share
pub shared_is : (pattern : MultiSlotArgPattern) (present : List (List ℕ)) → is_complete pattern (length present) ≡ true → slice_get present (length present - (shape_of pattern).shared) ≡ slice_get (shared_in pattern present) 0
shared_is pattern present h1 = grind (arith, get_after)
