-- A binary search in a table by ascending names.
use Rattle.std.proofs.Common.{◌≡◌, ℕ, zero, suc, ◌<◌, ◌≤◌, List, [], ◌∷◌, true, false, None, Ordering, refl, sym, ap, ◌∙◌, arith, length, get_or, map, add-one}
use Rattle.std.specs.Ordering.{nat_cmp, is_lt, is_eq, ordering_reverse, ordering_index}
use Rattle.std.specs.Cmp.Lexicographic.{slice_cmp}
use Rattle.std.specs.List.Sorted.{IsNonDecreasingBy}
use Rattle.std.specs.Str.{bytes_eq}
use Rattle.std.proofs.lemmas.Bool.{cases_lt, or_right}
use Rattle.std.proofs.lemmas.Cmp.{nat_list_cmp_total}
use Rattle.std.proofs.lemmas.List.Sorted.{searchable_from_sorted}
use Rattle.std.proofs.lemmas.Map.Text.{is_eq-slice_cmp}
use Rattle.redis_routing.specs.Lookup.{lookup_name, has_name, ascends, ascends_from}
use Rattle.resp_core.proofs.Cases.{and_first, and_second}

abbrev order : List ℕ → List ℕ → Ordering
order = slice_cmp nat_cmp

is_less : (o : Ordering) → is_lt o ≡ true → o ≡ Ordering.Less
is_less Ordering.Less h = refl
is_less Ordering.Equal h = cc
is_less Ordering.Greater h = cc

turned : (a b : List ℕ) (o : Ordering) → order a b ≡ o → order b a ≡ ordering_reverse o
turned a b o h = nat_list_cmp_total.antisymm b a ∙ ap ordering_reverse h

tested : (a b : List ℕ) (o : Ordering) → order a b ≡ o → bytes_eq a b ≡ is_eq o
tested a b o h = sym (is_eq-slice_cmp a b) ∙ ap is_eq h

module _ {X : Type 0} (key : X → List ℕ) where
  tail_ascends : (x : X) (xs : List X) → ascends (map key (x ∷ xs)) ≡ true → ascends (map key xs) ≡ true
  tail_ascends x [] h = refl
  tail_ascends x (y ∷ ys) h = and_second _ (ascends_from (key y) (map key ys)) h

  above : (k : List ℕ) (xs : List X) (m : ℕ) (d : X) → ascends_from k (map key xs) ≡ true → m < length xs → order k (key (get_or xs m d)) ≡ Ordering.Less
  above k [] m d h inside = absurd (omega arith)
  above k (x ∷ xs) zero d h inside = is_less _ (and_first _ (ascends_from (key x) (map key xs)) h)
  above k (x ∷ xs) (suc m) d h inside =
      nat_list_cmp_total.trans k (key x) (key (get_or xs m d))
      (is_less _ (and_first _ (ascends_from (key x) (map key xs)) h))
      (above (key x) xs m d (and_second _ (ascends_from (key x) (map key xs)) h) (omega arith))

  next_above : (xs : List X) (k : ℕ) (d : X) → ascends (map key xs) ≡ true → suc k < length xs → order (key (get_or xs k d)) (key (get_or xs (suc k) d)) ≡ Ordering.Less
  next_above [] k d h inside = absurd (omega arith)
  next_above (x ∷ xs) zero d h inside = above (key x) xs 0 d h (omega arith)
  next_above (x ∷ xs) (suc k) d h inside = next_above xs k d (tail_ascends x xs h) (omega arith)

  -- what a binary search asks of the table
  pub rising : (xs : List X) (n : List ℕ) → ascends (map key xs) ≡ true → IsNonDecreasingBy (λ x. ordering_index (order (key x) n)) xs
  rising xs n h = searchable_from_sorted nat_list_cmp_total key xs n
      (λ k d low high. rw add-one (ap is_lt (turned (key (get_or xs k d)) (key (get_or xs (suc k) d)) Ordering.Less (next_above xs k d h (omega arith)))))

  apart : (xs : List X) (n : List ℕ) (i : ℕ)
      → ((k : ℕ) (d : X) → 0 ≤ k → k < i → order (key (get_or xs k d)) n ≡ Ordering.Less)
      → ((k : ℕ) (d : X) → i ≤ k → k < length xs → order (key (get_or xs k d)) n ≡ Ordering.Greater)
      → (k : ℕ) (d : X) → k < length xs → bytes_eq (key (get_or xs k d)) n ≡ false
  apart xs n i under over k d inside = grind (arith, cases_lt, tested)

  module _ {A : Type 0} (value : X → A) where
    pub missing : (xs : List X) (n : List ℕ) → ((k : ℕ) (d : X) → k < length xs → bytes_eq (key (get_or xs k d)) n ≡ false) → lookup_name (map (λ x. (key x, value x)) xs) n ≡ None
    missing [] n apart = refl
    missing (x ∷ xs) n apart = rw (apart 0 x (omega arith)) (missing xs n (λ k d h. apart (suc k) d (omega arith)))

module _ {X : Type 0} (key : X → List ℕ) where
  pub found_name : (xs : List X) (n : List ℕ) (i : ℕ) (d : X) → i < length xs → order (key (get_or xs i d)) n ≡ Ordering.Equal → has_name (map key xs) n ≡ true
  found_name [] n i d inside same = absurd (omega arith)
  found_name (x ∷ xs) n zero d inside same = rw (tested (key x) n Ordering.Equal same) refl
  found_name (x ∷ xs) n (suc i) d inside same = or_right (bytes_eq (key x) n) (has_name (map key xs) n) (found_name xs n i d (omega arith) same)

  pub missing_name : (xs : List X) (n : List ℕ) → ((k : ℕ) (d : X) → k < length xs → bytes_eq (key (get_or xs k d)) n ≡ false) → has_name (map key xs) n ≡ false
  missing_name [] n apart = refl
  missing_name (x ∷ xs) n apart = rw (apart 0 x (omega arith)) (missing_name xs n (λ k d h. apart (suc k) d (omega arith)))

  pub not_found_name : (xs : List X) (n : List ℕ) (i : ℕ)
      → ((k : ℕ) (d : X) → 0 ≤ k → k < i → order (key (get_or xs k d)) n ≡ Ordering.Less)
      → ((k : ℕ) (d : X) → i ≤ k → k < length xs → order (key (get_or xs k d)) n ≡ Ordering.Greater)
      → has_name (map key xs) n ≡ false
  not_found_name xs n i under over = missing_name xs n (apart key xs n i under over)
