-- Look-ups in tables whose rows stand at the places of their names.
use Rattle.std.proofs.Common.{◌≡◌, ℕ, zero, suc, ◌<◌, ◌≤◌, ◌+◌, ◌-◌, ◌++◌, inl, inr, List, [], ◌∷◌, Bool, true, false, None, Some, refl, sym, ap, ◌∙◌, arith, length, get_or, map, cond}
use Rattle.std.specs.Prelude.{option_and_then, option_map}
use Rattle.std.specs.List.{range_with_len}
use Rattle.std.specs.Str.{bytes_eq}
use Rattle.std.proofs.lemmas.List.{get_or_default}
use Rattle.std.proofs.lemmas.Option.{slice_get_cases, slice_get-map}
use Rattle.std.proofs.lemmas.Slice.Eq.{bytes_eq-Decides}
use Rattle.redis_routing.specs.Lookup.{lookup_name, has_name}
use Rattle.redis_routing.specs.Places.{stand_at_their_rows, value_at}
use Rattle.redis_routing.proofs.Search.{missing, missing_name}
use Rattle.resp_core.proofs.Cases.{by_test}
use Rattle.std.proofs.lemmas.Bool.{or_right}

module _ {X : Type 0} (key : X → List ℕ) (place : List ℕ → ℕ) where
  -- each row stands at its place, counted from a number on
  abbrev Stand : ℕ → List X → Type 0
  Stand o xs = map place (map key xs) ≡ range_with_len o (length (map key xs))

  place_at : (xs : List X) (o i : ℕ) (d : X) → Stand o xs → i < length xs → place (key (get_or xs i d)) ≡ o + i
  place_at [] o i d h inside = absurd (omega arith)
  place_at (x ∷ xs) o zero d h inside = let first : place (key x) ≡ o = cc h in omega arith
  place_at (x ∷ xs) o (suc i) d h inside =
      let rest : Stand (o + 1) xs = cc h in
      let at : place (key (get_or xs i d)) ≡ (o + 1) + i = place_at xs (o + 1) i d rest (omega arith) in
      omega arith

  -- what does not stand at its place stands nowhere
  apart : (xs : List X) (n : List ℕ) (i : ℕ) → Stand 0 xs → i ≡ place n → ((d : X) → i < length xs → bytes_eq (key (get_or xs i d)) n ≡ false) → (k : ℕ) (d : X) → k < length xs → bytes_eq (key (get_or xs k d)) n ≡ false
  apart xs n i h is unlike k d inside = grind (arith, by_test, bytes_eq-Decides, place_at)

  found_from : {A : Type 0} (value : X → A) (xs : List X) (n : List ℕ) (o i : ℕ) (d : X) → Stand o xs → i < length xs → key (get_or xs i d) ≡ n → lookup_name (map (λ x. (key x, value x)) xs) n ≡ Some (value (get_or xs i d))
  found_from value [] n o i d h inside same = absurd (omega arith)
  found_from value (x ∷ xs) n o zero d h inside same = rw ((bytes_eq-Decides (key x) n).1 same) refl
  found_from value (x ∷ xs) n o (suc i) d h inside same =
      let first : place (key x) ≡ o = cc h in
      let rest : Stand (o + 1) xs = cc h in
      let at : place n ≡ (o + 1) + i = ap place (sym same) ∙ place_at xs (o + 1) i d rest (omega arith) in
      by_test (bytes_eq (key x) n)
      (λ equal. let here : place n ≡ o = ap place (sym ((bytes_eq-Decides (key x) n).0 equal)) ∙ first in absurd (omega arith))
      (λ unlike. rw unlike (found_from value xs n (o + 1) i d rest (omega arith) same))

module _ {X : Type 0} (key : X → List ℕ) (place : List ℕ → ℕ) where
  standing : (xs : List X) → stand_at_their_rows place (map key xs) ≡ true → Stand key place 0 xs
  standing xs h = (bytes_eq-Decides _ _).0 h

  -- the name stands there
  pub found_at_place : {A : Type 0} (value : X → A) (xs : List X) (n : List ℕ) (i : ℕ) (d : X) → stand_at_their_rows place (map key xs) ≡ true → i < length xs → bytes_eq (key (get_or xs i d)) n ≡ true → lookup_name (map (λ x. (key x, value x)) xs) n ≡ Some (value (get_or xs i d))
  found_at_place value xs n i d h inside same = found_from key place value xs n 0 i d (standing xs h) inside ((bytes_eq-Decides (key (get_or xs i d)) n).0 same)

  -- the name does not stand at its place
  pub not_at_place : {A : Type 0} (value : X → A) (xs : List X) (n : List ℕ) (i : ℕ) → stand_at_their_rows place (map key xs) ≡ true → i ≡ place n → ((d : X) → i < length xs → bytes_eq (key (get_or xs i d)) n ≡ false) → lookup_name (map (λ x. (key x, value x)) xs) n ≡ None
  not_at_place value xs n i h is unlike = missing key value xs n (apart key place xs n i (standing xs h) is unlike)

  pub no_name_at_place : (xs : List X) (n : List ℕ) (i : ℕ) → stand_at_their_rows place (map key xs) ≡ true → i ≡ place n → ((d : X) → i < length xs → bytes_eq (key (get_or xs i d)) n ≡ false) → has_name (map key xs) n ≡ false
  no_name_at_place xs n i h is unlike = missing_name key xs n (apart key place xs n i (standing xs h) is unlike)

  name_at : (xs : List X) (n : List ℕ) (i : ℕ) (d : X) → i < length xs → bytes_eq (key (get_or xs i d)) n ≡ true → has_name (map key xs) n ≡ true
  name_at [] n i d inside same = absurd (omega arith)
  name_at (x ∷ xs) n zero d inside same = rw same refl
  name_at (x ∷ xs) n (suc i) d inside same = or_right (bytes_eq (key x) n) (has_name (map key xs) n) (name_at xs n i d (omega arith) same)

  -- whether a name stands at its place, by a test there
  pub named_at_place : (xs : List X) (n : List ℕ) (i : ℕ) (d : X) (b : Bool) → stand_at_their_rows place (map key xs) ≡ true → i ≡ place n → i < length xs → b ≡ bytes_eq (key (get_or xs i d)) n → b ≡ has_name (map key xs) n
  named_at_place xs n i d true h is inside test = sym (name_at xs n i d inside (sym test))
  named_at_place xs n i d false h is inside test = sym (no_name_at_place xs n i h is (λ e below. ap (λ x. bytes_eq (key x) n) (get_or_default xs i e d inside) ∙ sym test))

  -- the row at the place of a name has what the table has for the name
  pub value_at_place : {A : Type 0} (value : X → A) (xs : List X) (n : List ℕ) (i : ℕ) → stand_at_their_rows place (map key xs) ≡ true → i ≡ place n → value_at (map (λ x. (key x, value x)) xs) i n ≡ lookup_name (map (λ x. (key x, value x)) xs) n
  value_at_place value xs n i h is = elim (slice_get_cases xs i).1 [
    | inl (x, inside, got, same) ↦
        ap (option_and_then (λ r. cond (bytes_eq r.0 n) (Some r.1) None)) (slice_get-map (λ x. (key x, value x)) xs i ∙ ap (option_map (λ x. (key x, value x))) got)
        ∙ by_test (bytes_eq (key x) n)
        (λ equal. rw equal (sym (found_at_place value xs n i x h inside (ap (λ r. bytes_eq (key r) n) same ∙ equal) ∙ ap (λ r. Some (value r)) same)))
        (λ unlike. rw unlike (sym (not_at_place value xs n i h is (λ d below. ap (λ r. bytes_eq (key r) n) (get_or_default xs i d x inside ∙ same) ∙ unlike))))
    | inr (past, none) ↦
        ap (option_and_then (λ r. cond (bytes_eq r.0 n) (Some r.1) None)) (slice_get-map (λ x. (key x, value x)) xs i ∙ ap (option_map (λ x. (key x, value x))) none)
        ∙ sym (not_at_place value xs n i h is (λ d inside. absurd (omega arith)))
  ]

module _ {A : Type 0} where
  -- a row of the first of two tables
  pub value_in_first : (xs ys : List (List ℕ × A)) (i : ℕ) (n : List ℕ) → i < length xs → value_at (xs ++ ys) i n ≡ value_at xs i n
  value_in_first [] ys i n inside = absurd (omega arith)
  value_in_first (x ∷ xs) ys zero n inside = refl
  value_in_first (x ∷ xs) ys (suc i) n inside = value_in_first xs ys i n (omega arith)

  -- a row after those of the first
  pub value_in_second : (xs ys : List (List ℕ × A)) (i : ℕ) (n : List ℕ) → length xs ≤ i → value_at (xs ++ ys) i n ≡ value_at ys (i - length xs) n
  value_in_second [] ys i n past = let same : i ≡ i - 0 = omega arith in ap (λ k. value_at ys k n) same
  value_in_second (x ∷ xs) ys zero n past = absurd (omega arith)
  value_in_second (x ∷ xs) ys (suc i) n past =
      let same : i - length xs ≡ suc i - length (x ∷ xs) = omega arith in
      value_in_second xs ys i n (omega arith) ∙ ap (λ k. value_at ys k n) same
