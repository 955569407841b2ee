-- The lists of the routes of a split ascend and share out the places of the present arguments, and each gives the arguments of its part.
use Rattle.std.proofs.Common.{◌≡◌, ℕ, zero, suc, ◌+◌, ◌-◌, ◌%◌, ◌<◌, ◌≤◌, List, [], ◌∷◌, ◌++◌, Bool, true, false, not, cond, ◌||◌, refl, sym, ap, ◌∙◌, arith, length, map, take, drop, get_or, filter, Less, inl, inr, drop-cons, drop_of_length-le, add-one}
use Rattle.std.specs.Prelude.{nat_eq, count_by, All}
use Rattle.std.specs.List.{AllByRecursion, list_any, flat_map, range_with_len}
use Rattle.std.specs.List.Sorted.{IsStrictlySortedBy}
use Rattle.std.specs.Ordering.{nat_cmp}
use Rattle.std.proofs.Math.Bool.{or-true}
use Rattle.std.proofs.Math.Path.{fun_ext}
use Rattle.std.proofs.lemmas.Bool.{cases_lt, eqb-true}
use Rattle.std.proofs.lemmas.Bool.Decides.{nat_tests}
use Rattle.std.proofs.lemmas.List.{map-append, length-map}
use Rattle.std.proofs.lemmas.List.Elements.{All-map}
use Rattle.std.proofs.lemmas.List.Folds.{list_any-append}
use Rattle.std.proofs.lemmas.List.Sums.{sum_by-cons}
use Rattle.std.proofs.lemmas.Grind.{common_steps}
use Rattle.cluster_slots.specs.ArgPattern.{fits, tuple_args_count, width_of}
use Rattle.cluster_slots.specs.declared.arg_pattern.MultiSlotArgPattern.{MultiSlotArgPattern}
use Rattle.cluster_slots.specs.declared.arg_pattern.MultiSlotArgPattern.TheVariants.{KeysOnly, KeyValuePairs, KeysAndLastArg, KeyWithTwoArgTriples}
use Rattle.cluster_slots.proofs.ArgPatterns.{own_few, length-own}
use Rattle.redis_routing.specs.Laws.{Covers, lists_with}
use Rattle.redis_routing.specs.Parts.{slot_of, first_appearances, tuples_in_slot, places_in_slot, arguments_in_slot}
use Rattle.redis_routing.specs.Routing.{route_of_slot, routes_of}
use Rattle.redis_routing.specs.Tuples.{Tuple, keys_alone, keys_and_values, keys_and_two, tuples_from, tuples_in, shared_in, places_of, arguments_of}
use Rattle.resp_core.proofs.Cases.{by_test, and_second}

self : (n : ℕ) → nat_eq n n ≡ true
self n = grind (arith, nat_tests)

module _ {X : Type 0} (p : X → Bool) where
  count-cons : (x : X) (xs : List X) → count_by p (x ∷ xs) ≡ cond (p x) 1 0 + count_by p xs
  count-cons x xs = sum_by-cons (λ x. cond (p x) 1 0) x xs

  count_yes : (x : X) (xs : List X) → p x ≡ true → count_by p (x ∷ xs) ≡ 1 + count_by p xs
  count_yes x xs h = count-cons x xs ∙ ap (λ b. cond b 1 0 + count_by p xs) h

  count_no : (x : X) (xs : List X) → p x ≡ false → count_by p (x ∷ xs) ≡ count_by p xs
  count_no x xs h = omega (arith, count-cons x xs, ap (λ b. cond b 1 0 + count_by p xs) h)

  count_none : (xs : List X) → ((x : X) → p x ≡ false) → count_by p xs ≡ 0
  count_none [] none = refl
  count_none (x ∷ xs) none = count_no x xs (none x) ∙ count_none xs none

  count_all : (xs : List X) → ((x : X) → p x ≡ true) → count_by p xs ≡ length xs
  count_all [] each = refl
  count_all (x ∷ xs) each = omega (arith, count_yes x xs (each x), count_all xs each)

  count-map : {Y : Type 0} (f : Y → X) (ys : List Y) → count_by p (map f ys) ≡ count_by (λ y. p (f y)) ys
  count-map f [] = refl
  count-map f (y ∷ ys) = omega (arith, count-cons (f y) (map f ys), sum_by-cons (λ y. cond (p (f y)) 1 0) y ys, count-map f ys)

-- nothing is left of a number that is taken out
count_gone : (s : ℕ) (ns : List ℕ) → count_by (nat_eq s) (filter (λ k. not (nat_eq s k)) ns) ≡ 0
count_gone s [] = refl
count_gone s (n ∷ ns) = grind (arith, common_steps, count_gone s ns)

-- taking out one number leaves the others
count_kept : (s n : ℕ) (ns : List ℕ) → nat_eq s n ≡ false → count_by (nat_eq s) (filter (λ k. not (nat_eq n k)) ns) ≡ count_by (nat_eq s) ns
count_kept s n [] apart = refl
count_kept s n (m ∷ ns) apart = grind (arith, common_steps, count_kept s n ns apart)

-- how often a number stands in a list that another one heads, and that has it no second time
count_first : (s n : ℕ) (ns : List ℕ) → count_by (nat_eq s) (n ∷ filter (λ k. not (nat_eq n k)) ns) ≡ cond (nat_eq s n) 1 (count_by (nat_eq s) ns)
count_first s n ns = grind (arith, common_steps, by_test, eqb-true, count_gone, count_yes, count_no, count_kept)

-- each number stands once among the firsts
pub count_firsts : (s : ℕ) (ns : List ℕ) → count_by (nat_eq s) (first_appearances ns) ≡ cond (list_any (nat_eq s) ns) 1 0
count_firsts s [] = refl
count_firsts s (n ∷ ns) = grind (arith, count_first, by_test, count_firsts s ns)

-- the numbers ascend, from the one bound to below the other
abbrev pub Between : ℕ → ℕ → List ℕ → Type 0
Between low high [] = low ≤ high
Between low high (x ∷ xs) = (low ≤ x) × Between (x + 1) high xs

pub bounds : (low high : ℕ) (xs : List ℕ) → Between low high xs → low ≤ high
bounds low high [] h = h
bounds low high (x ∷ xs) h = omega (arith, h.0, bounds (x + 1) high xs h.1)

lower : (low below high : ℕ) (xs : List ℕ) → below ≤ low → Between low high xs → Between below high xs
lower low below high [] small h = omega arith
lower low below high (x ∷ xs) small h = (omega (arith, h.0), h.1)

between-append : (low mid high : ℕ) (xs ys : List ℕ) → Between low mid xs → Between mid high ys → Between low high (xs ++ ys)
between-append low mid high [] ys first second = lower mid low high ys first second
between-append low mid high (x ∷ xs) ys first second = (first.0, between-append (x + 1) mid high xs ys first.1 second)

-- what lies below the bound lies below each of them
above : (x low high : ℕ) (xs : List ℕ) → x < low → Between low high xs → AllByRecursion (λ y. nat_cmp x y ≡ Less) xs
above x low high [] under h = tt
above x low high (y ∷ ys) under h = grind (arith, common_steps, above x (y + 1) high ys (omega (arith, h.0)) h.1)

ascending : (low high : ℕ) (xs : List ℕ) → Between low high xs → IsStrictlySortedBy nat_cmp xs
unfolding IsStrictlySortedBy
ascending low high [] h = tt
ascending low high (x ∷ xs) h = (above x (x + 1) high xs (omega arith) h.1, ascending (x + 1) high xs h.1)

not_below : (p low high : ℕ) (xs : List ℕ) → p < low → Between low high xs → list_any (nat_eq p) xs ≡ false
not_below p low high [] under h = refl
not_below p low high (x ∷ xs) under h = grind (arith, common_steps, not_below p (x + 1) high xs (omega (arith, h.0)) h.1)

not_past : (p low high : ℕ) (xs : List ℕ) → high ≤ p → Between low high xs → list_any (nat_eq p) xs ≡ false
not_past p low high [] past h = refl
not_past p low high (x ∷ xs) past h = grind (arith, bounds, nat_tests, not_past p (x + 1) high xs past h.1)

range_between : (low n : ℕ) → Between low (low + n) (range_with_len low n)
range_between low zero = omega arith
range_between low (suc n) = grind (arith, common_steps, range_between (low + 1) n)

range_has : (low n p : ℕ) → low ≤ p → p < low + n → list_any (nat_eq p) (range_with_len low n) ≡ true
range_has low zero p from to = absurd (omega arith)
range_has low (suc n) p from to =
    by_test (nat_eq p low)
    (λ same. rw same refl)
    (λ other. let apart : low + 1 ≤ p = grind (arith, nat_tests) in rw other (range_has (low + 1) n p apart (omega arith)))

-- the place after a tuple that stands at a place
abbrev pub next : ℕ → Tuple → ℕ
next low t = low + (1 + length t.extras)

-- the tuples stand side by side from the one place to the other
abbrev pub Tiles : ℕ → ℕ → List Tuple → Type 0
Tiles low high [] = low ≡ high
Tiles low high (t ∷ ts) = (t.place ≡ low) × Tiles (next low t) high ts

tiles_alone : (low : ℕ) (present : List (List ℕ)) → Tiles low (low + length present) (keys_alone low present)
tiles_alone low [] = omega arith
tiles_alone low (key ∷ present) = grind (arith, common_steps, tiles_alone (low + 1) present)

tiles_pairs : (low : ℕ) (present : List (List ℕ)) → length present % 2 ≡ 0 → Tiles low (low + length present) (keys_and_values low present)
tiles_pairs low [] even = omega arith
tiles_pairs low (key ∷ []) even = absurd (omega arith)
tiles_pairs low (key ∷ value ∷ present) even =
    let e : (low + 2) + length present ≡ low + suc (suc (length present)) = omega arith in
    let less : length present % 2 ≡ 0 = omega arith in
    (refl, rw e at (tiles_pairs (low + 2) present less))

tiles_triples : (low : ℕ) (present : List (List ℕ)) → length present % 3 ≡ 0 → Tiles low (low + length present) (keys_and_two low present)
tiles_triples low [] even = omega arith
tiles_triples low (key ∷ []) even = absurd (omega arith)
tiles_triples low (key ∷ a ∷ []) even = absurd (omega arith)
tiles_triples low (key ∷ a ∷ b ∷ present) even =
    let e : (low + 3) + length present ≡ low + suc (suc (suc (length present))) = omega arith in
    let less : length present % 3 ≡ 0 = omega arith in
    (refl, rw e at (tiles_triples (low + 3) present less))

tiles_from : (pattern : MultiSlotArgPattern) (low : ℕ) (present : List (List ℕ)) → length present % width_of pattern ≡ 0 → Tiles low (low + length present) (tuples_from pattern low present)
tiles_from KeysOnly low present even = tiles_alone low present
tiles_from KeyValuePairs low present even = tiles_pairs low present even
tiles_from KeysAndLastArg low present even = tiles_alone low present
tiles_from KeyWithTwoArgTriples low present even = tiles_triples low present even

-- the arguments that make tuples come out even
pub own_whole : (pattern : MultiSlotArgPattern) (m : ℕ) → fits pattern m ≡ true → tuple_args_count pattern m % width_of pattern ≡ 0
own_whole pattern m h1 = grind (arith, eqb-true, and_second)

-- the tuples stand side by side from the first place on
pub tiles_present : (pattern : MultiSlotArgPattern) (present : List (List ℕ)) → fits pattern (length present) ≡ true → Tiles 0 (tuple_args_count pattern (length present)) (tuples_in pattern present)
tiles_present pattern present whole =
    let own = tuple_args_count pattern (length present) in
    let e : 0 + length (take own present) ≡ own = omega (arith, length-own pattern present) in
    rw e at (tiles_from pattern 0 (take own present) (ap (λ m. m % width_of pattern) (length-own pattern present) ∙ own_whole pattern (length present) whole))

-- the places of a slot's tuples
abbrev slot_tuple_places : ℕ → List Tuple → List ℕ
slot_tuple_places s ts = flat_map places_of (tuples_in_slot s ts)

-- the places of the tuples of a slot ascend
part_between : (low high s : ℕ) (ts : List Tuple) → Tiles low high ts → Between low high (slot_tuple_places s ts)
part_between low high s [] h = omega arith
part_between low high s (t ∷ ts) h =
    let rest : Between (next low t) high (slot_tuple_places s ts) = part_between (next low t) high s ts h.1 in
    by_test (nat_eq (slot_of t) s)
    (λ here. rw here (rw h.0 (between-append low (next low t) high (range_with_len low (1 + length t.extras)) (slot_tuple_places s ts) (range_between low (1 + length t.extras)) rest)))
    (λ there. rw there (lower (next low t) low high (slot_tuple_places s ts) (omega arith) rest))

-- a place that the tuples cover stands in the part of one slot alone, and that is the slot of a key
owner : (p low high : ℕ) (ts : List Tuple) → Tiles low high ts → low ≤ p → p < high → (own : ℕ) × (list_any (nat_eq own) (map slot_of ts) ≡ true) × ((s : ℕ) → list_any (nat_eq p) (slot_tuple_places s ts) ≡ nat_eq own s)
owner p low high [] h from to = absurd (omega arith)
owner p low high (t ∷ ts) h from to = elim (cases_lt p (next low t)) [
  | inl here ↦
      let held : list_any (nat_eq p) (places_of t) ≡ true = rw h.0 (range_has low (1 + length t.extras) p from here) in (
        slot_of t,
        ap (λ b. b || list_any (nat_eq (slot_of t)) (map slot_of ts)) (self (slot_of t)),
        λ s.
            by_test (nat_eq (slot_of t) s)
            (λ same. rw same (list_any-append (nat_eq p) (places_of t) (slot_tuple_places s ts) ∙ ap (λ b. b || list_any (nat_eq p) (slot_tuple_places s ts)) held))
            (λ other. rw other (not_below p (next low t) high (slot_tuple_places s ts) here (part_between (next low t) high s ts h.1))),
      )
  | inr later ↦
      let behind : list_any (nat_eq p) (places_of t) ≡ false = rw h.0 (not_past p low (next low t) (range_with_len low (1 + length t.extras)) later (range_between low (1 + length t.extras))) in
      let rest = owner p (next low t) high ts h.1 later to in (
        rest.0,
        ap (λ b. nat_eq rest.0 (slot_of t) || b) rest.1 ∙ or-true (nat_eq rest.0 (slot_of t)),
        λ s.
            by_test (nat_eq (slot_of t) s)
            (λ same. rw same (list_any-append (nat_eq p) (places_of t) (slot_tuple_places s ts) ∙ ap (λ b. b || list_any (nat_eq p) (slot_tuple_places s ts)) behind ∙ rest.2 s))
            (λ other. rw other (rest.2 s)),
      )
]

module _ (pattern : MultiSlotArgPattern) (present : List (List ℕ)) where
  abbrev own : ℕ
  own = tuple_args_count pattern (length present)

  abbrev tuples : List Tuple
  tuples = tuples_in pattern present

  abbrev shared_places : List ℕ
  shared_places = range_with_len own (length present - own)

  last_between : Between own (length present) shared_places
  last_between = grind (arith, common_steps)

  -- the places of a part ascend and are of present arguments
  pub part_in_present : (slot : ℕ) → fits pattern (length present) ≡ true → Between 0 (length present) (places_in_slot pattern present slot)
  part_in_present slot whole = between-append 0 own (length present) (slot_tuple_places slot tuples) shared_places (part_between 0 own slot tuples (tiles_present pattern present whole)) last_between

  -- the slots of the keys
  abbrev key_slots : List ℕ
  key_slots = map slot_of tuples

  -- whether the place is in the list of the slot's route
  abbrev has_place : ℕ → ℕ → Bool
  has_place p s = list_any (nat_eq p) (places_in_slot pattern present s)

  has_own : (p s : ℕ) → p < own → has_place p s ≡ list_any (nat_eq p) (slot_tuple_places s tuples)
  has_own p s to = grind (arith, common_steps)

  has_shared : (p s : ℕ) → own ≤ p → p < length present → has_place p s ≡ true
  has_shared p s from to = grind (arith, common_steps)

  module _ (reads : Bool) where
    -- the lists with a place, counted by slots
    by_slots : (p : ℕ) → lists_with p (routes_of reads pattern present) ≡ count_by (has_place p) (first_appearances key_slots)
    by_slots p = count-map (λ r. list_any (nat_eq p) r.1) (route_of_slot reads pattern present) (first_appearances key_slots)

    in_each : (p : ℕ) → own ≤ p → p < length present → lists_with p (routes_of reads pattern present) ≡ length (routes_of reads pattern present)
    in_each p from to = by_slots p ∙ count_all (has_place p) (first_appearances key_slots) (λ s. has_shared p s from to) ∙ sym (simp length-map)

    one_route : (slot : ℕ) → count_by (λ r. nat_eq slot r.0.slot) (routes_of reads pattern present) ≤ 1
    one_route slot = grind (arith, common_steps, count-map, count_firsts slot key_slots, by_test)

    module _ (whole : fits pattern (length present) ≡ true) where
      places_between : (s : ℕ) → Between 0 (length present) (places_in_slot pattern present s)
      places_between s = part_in_present s whole

      lists_ascend : All (λ r. IsStrictlySortedBy nat_cmp r.1) (routes_of reads pattern present)
      lists_ascend =
          let ascends : (s : ℕ) → IsStrictlySortedBy nat_cmp (places_in_slot pattern present s) = λ s. ascending 0 (length present) (places_in_slot pattern present s) (places_between s) in
          All-map (λ r. IsStrictlySortedBy nat_cmp r.1) (route_of_slot reads pattern present) (first_appearances key_slots) (λ k d h. ascends (get_or (first_appearances key_slots) k d))

      in_one : (p : ℕ) → p < own → lists_with p (routes_of reads pattern present) ≡ 1
      in_one p to =
          let o = owner p 0 own tuples (tiles_present pattern present whole) (omega arith) to in
          let same : has_place p ≡ nat_eq o.0 = fun_ext (λ s. has_own p s to ∙ o.2 s) in
          by_slots p ∙ ap (λ f. count_by f (first_appearances key_slots)) same ∙ count_firsts o.0 key_slots ∙ ap (λ b. cond b 1 0) o.1

      in_none : (p : ℕ) → length present ≤ p → lists_with p (routes_of reads pattern present) ≡ 0
      in_none p past = by_slots p ∙ count_none (has_place p) (first_appearances key_slots) (λ s. not_past p 0 (length present) (places_in_slot pattern present s) past (places_between s))

-- the cover law of the routes of a split
pub covers : (reads : Bool) (pattern : MultiSlotArgPattern) (present : List (List ℕ)) → fits pattern (length present) ≡ true → Covers pattern present (routes_of reads pattern present)
covers reads pattern present whole = record {
  slots = one_route pattern present reads;
  ascending = lists_ascend pattern present reads whole;
  once = in_one pattern present reads whole;
  shared = in_each pattern present reads;
  within = in_none pattern present reads whole;
}

-- what is read at the places of each tuple is its arguments
abbrev AreRead : (ℕ → List ℕ) → List Tuple → Type 0
AreRead at [] = Unit {0}
AreRead at (t ∷ ts) = (map at (places_of t) ≡ arguments_of t) × AreRead at ts

module _ (at : ℕ → List ℕ) where
  -- from a place on, the arguments are read
  abbrev IsReadFrom : ℕ → List (List ℕ) → Type 0
  IsReadFrom low present = (k : ℕ) → k < length present → at (low + k) ≡ get_or present k []

  first_read : (low : ℕ) (key : List ℕ) (present : List (List ℕ)) → IsReadFrom low (key ∷ present) → at low ≡ key
  first_read low key present h = ap at (omega arith) ∙ h 0 (omega arith)

  rest_read : (low : ℕ) (key : List ℕ) (present : List (List ℕ)) → IsReadFrom low (key ∷ present) → IsReadFrom (low + 1) present
  rest_read low key present h k inside = ap at (omega arith) ∙ h (suc k) (omega arith)

  read_alone : (low : ℕ) (present : List (List ℕ)) → IsReadFrom low present → AreRead at (keys_alone low present)
  read_alone low [] h = tt
  read_alone low (key ∷ present) h = (ap (λ a. a ∷ []) (first_read low key present h), read_alone (low + 1) present (rest_read low key present h))

  read_pairs : (low : ℕ) (present : List (List ℕ)) → IsReadFrom low present → AreRead at (keys_and_values low present)
  read_pairs low [] h = tt
  read_pairs low (key ∷ []) h = tt
  read_pairs low (key ∷ value ∷ present) h =
      let second = rest_read low key (value ∷ present) h in
      let e : (low + 1) + 1 ≡ low + 2 = omega arith in
      let third : IsReadFrom (low + 2) present = rw e at (rest_read (low + 1) value present second) in
      (cc (first_read low key (value ∷ present) h, first_read (low + 1) value present second), read_pairs (low + 2) present third)

  read_triples : (low : ℕ) (present : List (List ℕ)) → IsReadFrom low present → AreRead at (keys_and_two low present)
  read_triples low [] h = tt
  read_triples low (key ∷ []) h = tt
  read_triples low (key ∷ a ∷ []) h = tt
  read_triples low (key ∷ a ∷ b ∷ present) h =
      let second = rest_read low key (a ∷ b ∷ present) h in
      let third = rest_read (low + 1) a (b ∷ present) second in
      let e : ((low + 1) + 1) + 1 ≡ low + 3 = omega arith in
      let fourth : IsReadFrom (low + 3) present = rw e at (rest_read ((low + 1) + 1) b present third) in
      (cc (first_read low key (a ∷ b ∷ present) h, first_read (low + 1) a (b ∷ present) second, first_read ((low + 1) + 1) b present third), read_triples (low + 3) present fourth)

  read_tuples : (pattern : MultiSlotArgPattern) (low : ℕ) (present : List (List ℕ)) → IsReadFrom low present → AreRead at (tuples_from pattern low present)
  read_tuples KeysOnly low present h = read_alone low present h
  read_tuples KeyValuePairs low present h = read_pairs low present h
  read_tuples KeysAndLastArg low present h = read_alone low present h
  read_tuples KeyWithTwoArgTriples low present h = read_triples low present h

  -- what is read at the places of a part's tuples is their arguments
  read_part : (s : ℕ) (ts : List Tuple) → AreRead at ts → map at (slot_tuple_places s ts) ≡ flat_map arguments_of (tuples_in_slot s ts)
  read_part s [] h = refl
  read_part s (t ∷ ts) h = grind (arith, common_steps, read_part s ts h.1)

-- the arguments from a place to the end
read_range : (present : List (List ℕ)) (low n : ℕ) → low + n ≡ length present → map (λ p. get_or present p []) (range_with_len low n) ≡ drop low present
read_range present low zero e = sym (drop_of_length-le present (omega arith))
read_range present low (suc n) e = ap (λ ws. get_or present low [] ∷ ws) (read_range present (low + 1) n (omega arith) ∙ ap (λ k. drop k present) (add-one low)) ∙ sym (drop-cons present low [] (omega arith))

module _ (pattern : MultiSlotArgPattern) (present : List (List ℕ)) where
  abbrev argument_at : ℕ → List ℕ
  argument_at p = get_or present p []

  own_read : IsReadFrom argument_at 0 (take (own pattern present) present)
  own_read k inside = grind (arith, common_steps)

  tuples_read : (slot : ℕ) → map argument_at (slot_tuple_places slot (tuples pattern present)) ≡ flat_map arguments_of (tuples_in_slot slot (tuples pattern present))
  tuples_read slot = read_part argument_at slot (tuples pattern present) (read_tuples argument_at pattern 0 (take (own pattern present) present) own_read)

  last_read : map argument_at (shared_places pattern present) ≡ shared_in pattern present
  last_read = read_range present (own pattern present) (length present - own pattern present) (omega (arith, own_few pattern (length present)))

-- the arguments at the places of a part are the part's
pub arguments_at_places : (pattern : MultiSlotArgPattern) (present : List (List ℕ)) (slot : ℕ) → map (λ p. get_or present p []) (places_in_slot pattern present slot) ≡ arguments_in_slot pattern present slot
arguments_at_places pattern present slot = grind (arith, map-append, tuples_read, last_read)
