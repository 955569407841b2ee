-- The tuples of arguments, one after the other.
use Rattle.std.proofs.Common.{◌≡◌, ℕ, ◌+◌, ◌<◌, ◌≤◌, List, [], ◌∷◌, map, length, take, drop, get_or, refl, ap, arith}
use Rattle.cluster_slots.specs.ArgPattern.{width_of}
use Rattle.cluster_slots.specs.declared.arg_pattern.MultiSlotArgPattern.{MultiSlotArgPattern}
use Rattle.redis_routing.specs.Tuples.{keys_alone, keys_and_values, keys_and_two}
use Rattle.redis_cluster.specs.MultiKey.{KeyTuple}
use Rattle.redis_cluster.specs.PlacedTuples.{unplaced}
use Rattle.memory_nodes.specs.Parts.{key_tuples}

-- without their places, tuples are the same wherever they begin
alone-anywhere : (p q : ℕ) (xs : List (List ℕ)) → map unplaced (keys_alone p xs) ≡ map unplaced (keys_alone q xs)
alone-anywhere p q [] = refl
alone-anywhere p q (x ∷ xs) = ap (λ ts. record { key = x; extras = [] } ∷ ts) (alone-anywhere (p + 1) (q + 1) xs)

pairs-anywhere : (p q : ℕ) (xs : List (List ℕ)) → map unplaced (keys_and_values p xs) ≡ map unplaced (keys_and_values q xs)
pairs-anywhere p q [] = refl
pairs-anywhere p q (k ∷ []) = refl
pairs-anywhere p q (k ∷ v ∷ xs) = ap (λ ts. record { key = k; extras = v ∷ [] } ∷ ts) (pairs-anywhere (p + 2) (q + 2) xs)

triples-anywhere : (p q : ℕ) (xs : List (List ℕ)) → map unplaced (keys_and_two p xs) ≡ map unplaced (keys_and_two q xs)
triples-anywhere p q [] = refl
triples-anywhere p q (k ∷ []) = refl
triples-anywhere p q (k ∷ a ∷ []) = refl
triples-anywhere p q (k ∷ a ∷ b ∷ xs) = ap (λ ts. record { key = k; extras = a ∷ b ∷ [] } ∷ ts) (triples-anywhere (p + 3) (q + 3) xs)

-- the first tuple: a key and what goes with it
abbrev pub first_tuple : MultiSlotArgPattern → List (List ℕ) → KeyTuple
first_tuple pattern xs = record { key = get_or xs 0 []; extras = drop 1 (take (width_of pattern) xs) }

alone-next : (xs : List (List ℕ)) → 1 ≤ length xs → map unplaced (keys_alone 0 xs) ≡ record { key = get_or xs 0 []; extras = drop 1 (take 1 xs) } ∷ map unplaced (keys_alone 0 (drop 1 xs))
alone-next [] h = absurd (omega (arith, h))
alone-next (x ∷ xs) h = ap (λ ts. record { key = x; extras = [] } ∷ ts) (alone-anywhere 1 0 xs)

pairs-next : (xs : List (List ℕ)) → 2 ≤ length xs → map unplaced (keys_and_values 0 xs) ≡ record { key = get_or xs 0 []; extras = drop 1 (take 2 xs) } ∷ map unplaced (keys_and_values 0 (drop 2 xs))
pairs-next [] h = absurd (omega (arith, h))
pairs-next (k ∷ []) h = absurd (omega (arith, h))
pairs-next (k ∷ v ∷ xs) h = ap (λ ts. record { key = k; extras = v ∷ [] } ∷ ts) (pairs-anywhere 2 0 xs)

triples-next : (xs : List (List ℕ)) → 3 ≤ length xs → map unplaced (keys_and_two 0 xs) ≡ record { key = get_or xs 0 []; extras = drop 1 (take 3 xs) } ∷ map unplaced (keys_and_two 0 (drop 3 xs))
triples-next [] h = absurd (omega (arith, h))
triples-next (k ∷ []) h = absurd (omega (arith, h))
triples-next (k ∷ a ∷ []) h = absurd (omega (arith, h))
triples-next (k ∷ a ∷ b ∷ xs) h = ap (λ ts. record { key = k; extras = a ∷ b ∷ [] } ∷ ts) (triples-anywhere 3 0 xs)

-- where there are arguments enough, a tuple comes next
pub next-tuple : (pattern : MultiSlotArgPattern) (xs : List (List ℕ)) → width_of pattern ≤ length xs → key_tuples pattern xs ≡ first_tuple pattern xs ∷ key_tuples pattern (drop (width_of pattern) xs)
next-tuple pattern xs h1 = grind (arith, alone-next, pairs-next, triples-next)

alone-end : (xs : List (List ℕ)) → length xs < 1 → map unplaced (keys_alone 0 xs) ≡ []
alone-end [] h = refl
alone-end (x ∷ xs) h = absurd (omega (arith, h))

pairs-end : (xs : List (List ℕ)) → length xs < 2 → map unplaced (keys_and_values 0 xs) ≡ []
pairs-end xs h1 = grind (arith)

triples-end : (xs : List (List ℕ)) → length xs < 3 → map unplaced (keys_and_two 0 xs) ≡ []
triples-end xs h1 = grind (arith)

-- where there are not, none is left
pub no-tuple : (pattern : MultiSlotArgPattern) (xs : List (List ℕ)) → length xs < width_of pattern → key_tuples pattern xs ≡ []
no-tuple pattern xs h1 = grind (arith, alone-end, pairs-end, triples-end)
