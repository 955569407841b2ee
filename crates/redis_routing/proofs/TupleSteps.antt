-- The tuples of a command, one after the other.
use Rattle.std.proofs.Common.{◌≡◌, ℕ, zero, suc, ◌+◌, ◌*◌, ◌/◌, ◌<◌, ◌≤◌, List, [], ◌∷◌, ◌++◌, Some, None, refl, sym, ap, ◌∙◌, arith, length, take, drop, get_or, add-one}
use Rattle.std.specs.List.{range_with_len}
use Rattle.std.proofs.lemmas.List.{get_or-drop, get_or-take, take_all}
use Rattle.cluster_slots.specs.ArgPattern.{width_of, tuple_args_count}
use Rattle.cluster_slots.specs.declared.arg_pattern.MultiSlotArgPattern.{MultiSlotArgPattern}
use Rattle.cluster_slots.specs.declared.arg_pattern.MultiSlotArgPattern.TheVariants.{KeysOnly, KeyValuePairs, KeysAndLastArg, KeyWithTwoArgTriples}
use Rattle.cluster_slots.proofs.ArgPatterns.{some_width, own_few, length-own}
use Rattle.redis_routing.specs.Command.{Arguments, argument}
use Rattle.redis_routing.specs.PresentArguments.{arguments_before_gap, present_arguments_after}
use Rattle.redis_routing.specs.Tuples.{Tuple, keys_alone, keys_and_values, keys_and_two, tuples_from, tuples_in, places_of}

-- the next key
alone_next : (p n : ℕ) (xs : List (List ℕ)) (i : ℕ) → n ≡ p + i → i < length xs → take (suc i) (keys_alone p xs) ≡ take i (keys_alone p xs) ++ record { place = n; key = get_or xs i []; extras = [] } ∷ []
alone_next p n [] i e h = absurd (omega arith)
alone_next p n (x ∷ xs) zero e h = let same : p ≡ n = omega (arith, e) in ap (λ k. record { place = k; key = x; extras = [] } ∷ []) same
alone_next p n (x ∷ xs) (suc i) e h = ap (λ ts. record { place = p; key = x; extras = [] } ∷ ts) (alone_next (p + 1) n xs i (omega (arith, e)) (omega (arith, h)))

-- the next pair, whose key stands at j
pair_next : (p n : ℕ) (xs : List (List ℕ)) (i j : ℕ) → n ≡ p + j → j ≡ i * 2 → j + 1 < length xs → take (suc i) (keys_and_values p xs) ≡ take i (keys_and_values p xs) ++ record { place = n; key = get_or xs j []; extras = get_or xs (suc j) [] ∷ [] } ∷ []
pair_next p n [] i j e d h = absurd (omega arith)
pair_next p n (k ∷ []) i j e d h = absurd (omega arith)
pair_next p n (k ∷ v ∷ xs) zero zero e d h = let same : p ≡ n = omega (arith, e) in ap (λ m. record { place = m; key = k; extras = v ∷ [] } ∷ []) same
pair_next p n (k ∷ v ∷ xs) zero (suc j) e d h = absurd (omega (arith, d))
pair_next p n (k ∷ v ∷ xs) (suc i) zero e d h = absurd (omega (arith, d))
pair_next p n (k ∷ v ∷ xs) (suc i) (suc zero) e d h = absurd (omega (arith, d))
pair_next p n (k ∷ v ∷ xs) (suc i) (suc (suc j)) e d h = ap (λ ts. record { place = p; key = k; extras = v ∷ [] } ∷ ts) (pair_next (p + 2) n xs i j (omega (arith, e)) (omega (arith, d)) (omega (arith, h)))

-- the next triple, whose key stands at j
triple_next : (p n : ℕ) (xs : List (List ℕ)) (i j : ℕ) → n ≡ p + j → j ≡ i * 3 → j + 2 < length xs → take (suc i) (keys_and_two p xs) ≡ take i (keys_and_two p xs) ++ record { place = n; key = get_or xs j []; extras = get_or xs (suc j) [] ∷ get_or xs (suc (suc j)) [] ∷ [] } ∷ []
triple_next p n [] i j e d h = absurd (omega arith)
triple_next p n (k ∷ []) i j e d h = absurd (omega arith)
triple_next p n (k ∷ a ∷ []) i j e d h = absurd (omega arith)
triple_next p n (k ∷ a ∷ b ∷ xs) zero zero e d h = let same : p ≡ n = omega (arith, e) in ap (λ m. record { place = m; key = k; extras = a ∷ b ∷ [] } ∷ []) same
triple_next p n (k ∷ a ∷ b ∷ xs) zero (suc j) e d h = absurd (omega (arith, d))
triple_next p n (k ∷ a ∷ b ∷ xs) (suc i) zero e d h = absurd (omega (arith, d))
triple_next p n (k ∷ a ∷ b ∷ xs) (suc i) (suc zero) e d h = absurd (omega (arith, d))
triple_next p n (k ∷ a ∷ b ∷ xs) (suc i) (suc (suc zero)) e d h = absurd (omega (arith, d))
triple_next p n (k ∷ a ∷ b ∷ xs) (suc i) (suc (suc (suc j))) e d h = ap (λ ts. record { place = p; key = k; extras = a ∷ b ∷ [] } ∷ ts) (triple_next (p + 3) n xs i j (omega (arith, e)) (omega (arith, d)) (omega (arith, h)))

-- the tuple of a number: its key and its places, and how it follows those before it
pub record IsNext (pattern : MultiSlotArgPattern) (xs : List (List ℕ)) (i : ℕ) (t : Tuple) : Type 0 where
  pub key : t.key ≡ get_or xs (i * width_of pattern) []
  pub places : places_of t ≡ range_with_len (i * width_of pattern) (width_of pattern)
  pub taken : take (i + 1) (tuples_from pattern 0 xs) ≡ take i (tuples_from pattern 0 xs) ++ t ∷ []

next_in : (pattern : MultiSlotArgPattern) (xs : List (List ℕ)) (i : ℕ) → i * width_of pattern + width_of pattern ≤ length xs → (t : Tuple) × IsNext pattern xs i t
next_in KeysOnly xs i h =
    let one : i * 1 ≡ i = omega arith in
    (record { place = i; key = get_or xs i []; extras = [] }, record { key = rw one refl; places = rw one refl; taken = rw add-one (alone_next 0 i xs i (omega arith) (omega (arith, h))) })
next_in KeysAndLastArg xs i h =
    let one : i * 1 ≡ i = omega arith in
    (record { place = i; key = get_or xs i []; extras = [] }, record { key = rw one refl; places = rw one refl; taken = rw add-one (alone_next 0 i xs i (omega arith) (omega (arith, h))) })
next_in KeyValuePairs xs i h =
    (record { place = i * 2; key = get_or xs (i * 2) []; extras = get_or xs (suc (i * 2)) [] ∷ [] }, record { key = refl; places = refl; taken = rw add-one (pair_next 0 (i * 2) xs i (i * 2) (omega arith) refl (omega (arith, h))) })
next_in KeyWithTwoArgTriples xs i h =
    (record { place = i * 3; key = get_or xs (i * 3) []; extras = get_or xs (suc (i * 3)) [] ∷ get_or xs (suc (suc (i * 3))) [] ∷ [] }, record { key = refl; places = refl; taken = rw add-one (triple_next 0 (i * 3) xs i (i * 3) (omega arith) refl (omega (arith, h))) })

before_gap_item : (args : Arguments) (i : ℕ) → i < length (arguments_before_gap args) → argument args i ≡ Some (get_or (arguments_before_gap args) i [])
before_gap_item [] i h = absurd (omega arith)
before_gap_item (None ∷ args) i h = absurd (omega arith)
before_gap_item (Some arg ∷ args) zero h = refl
before_gap_item (Some arg ∷ args) (suc i) h = before_gap_item args i (omega (arith, h))

-- the present arguments stand after the name
pub present_item : (words : ℕ) (args : Arguments) (i : ℕ) → i < length (present_arguments_after words args) → argument args (i + words) ≡ Some (get_or (present_arguments_after words args) i [])
present_item words args i h = ap (argument args) (omega arith) ∙ sym (get_or-drop words args i None) ∙ before_gap_item (drop words args) i h

pub tuple_within : (pattern : MultiSlotArgPattern) (own i : ℕ) → i < own / width_of pattern → i * width_of pattern + width_of pattern ≤ own
tuple_within pattern own i h1 = grind (arith)

alone_few : (p : ℕ) (xs : List (List ℕ)) → length (keys_alone p xs) ≤ length xs
alone_few p [] = omega arith
alone_few p (x ∷ xs) = omega (arith, alone_few (p + 1) xs)

pairs_few : (p : ℕ) (xs : List (List ℕ)) → length (keys_and_values p xs) * 2 ≤ length xs
pairs_few p [] = omega arith
pairs_few p (k ∷ []) = omega arith
pairs_few p (k ∷ v ∷ xs) = omega (arith, pairs_few (p + 2) xs)

triples_few : (p : ℕ) (xs : List (List ℕ)) → length (keys_and_two p xs) * 3 ≤ length xs
triples_few p [] = omega arith
triples_few p (k ∷ []) = omega arith
triples_few p (k ∷ a ∷ []) = omega arith
triples_few p (k ∷ a ∷ b ∷ xs) = omega (arith, triples_few (p + 3) xs)

tuples_few : (pattern : MultiSlotArgPattern) (p : ℕ) (xs : List (List ℕ)) → length (tuples_from pattern p xs) ≤ length xs / width_of pattern
tuples_few KeysOnly p xs = omega (arith, alone_few p xs)
tuples_few KeyValuePairs p xs = omega (arith, pairs_few p xs)
tuples_few KeysAndLastArg p xs = omega (arith, alone_few p xs)
tuples_few KeyWithTwoArgTriples p xs = omega (arith, triples_few p xs)

-- past the last tuple none is left
pub tuples_end : (pattern : MultiSlotArgPattern) (present : List (List ℕ)) (n : ℕ) → tuple_args_count pattern (length present) / width_of pattern ≤ n → take n (tuples_in pattern present) ≡ tuples_in pattern present
tuples_end pattern present n h = grind (arith, tuples_few, length-own, take_all)

-- the tuple of a number in a command: its key is an argument after the name
pub record IsNextTuple (words : ℕ) (pattern : MultiSlotArgPattern) (args : Arguments) (i : ℕ) (t : Tuple) : Type 0 where
  pub key : argument args (i * width_of pattern + words) ≡ Some t.key
  pub places : places_of t ≡ range_with_len (i * width_of pattern) (width_of pattern)
  pub taken : take (i + 1) (tuples_in pattern (present_arguments_after words args)) ≡ take i (tuples_in pattern (present_arguments_after words args)) ++ t ∷ []

pub next_tuple : (words : ℕ) (pattern : MultiSlotArgPattern) (args : Arguments) (i : ℕ) → i < tuple_args_count pattern (length (present_arguments_after words args)) / width_of pattern → (t : Tuple) × IsNextTuple words pattern args i t
next_tuple words pattern args i h =
    let present = present_arguments_after words args in
    let own = tuple_args_count pattern (length present) in
    let inside : i * width_of pattern + width_of pattern ≤ own = tuple_within pattern own i h in
    let some : 0 < width_of pattern = some_width pattern in
    let few : own ≤ length present = own_few pattern (length present) in
    let next = next_in pattern (take own present) i (rw (length-own pattern present) inside) in (
      next.0,
      record {
        key = present_item words args (i * width_of pattern) (omega (arith, inside, some, few)) ∙ ap Some (sym (next.1.key ∙ get_or-take own present (i * width_of pattern) [] (omega (arith, inside, some))));
        places = next.1.places;
        taken = next.1.taken;
      },
    )
