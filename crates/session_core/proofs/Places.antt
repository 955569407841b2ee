-- What stands at the places of a list that grows at its end and is forgotten at its front.
use Rattle.std.proofs.Common.{true, false, inl, inr, ◌≡◌, ◌≢◌, ◌<◌, ◌≤◌, ◌+◌, ◌-◌, ◌++◌, ℕ, zero, suc, ltb, List, [], ◌∷◌, length, get_or, set, drop, take, None, Some, refl, sym, ap, ◌∙◌, arith}
use Rattle.std.specs.List.{slice_get}
use Rattle.std.specs.Option.{option_map}
use Rattle.std.proofs.lemmas.List.{length-take}
use Rattle.std.proofs.lemmas.Option.{slice_get_within, slice_get_past, slice_get_read}
use Rattle.std.proofs.lemmas.Bool.{cases_lt}
use Rattle.std.proofs.lemmas.Bool.Decides.{nat_tests}
use Rattle.session_core.proofs.PlaceLists.{get_pushed, get_pushed_last, at_index, get_first_dropped}
use Rattle.session_core.specs.Places.{item_at, changed}

get_front : {X : Type 0} (xs : List X) (n i : ℕ) → i < n → slice_get (take n xs) i ≡ slice_get xs i
get_front [] zero i h = absurd (omega arith)
get_front [] (suc n) i h = refl
get_front (x ∷ xs) zero i h = absurd (omega arith)
get_front (x ∷ xs) (suc n) zero h = refl
get_front (x ∷ xs) (suc n) (suc i) h = get_front xs n i (omega arith)

get_past_front : {X : Type 0} (xs : List X) (n i : ℕ) → n ≤ i → slice_get (take n xs) i ≡ None
get_past_front xs n i h = let len = length-take n xs in slice_get_past (take n xs) i (omega (arith, len))

get_changed : {X : Type 0} (f : X → X) (i j : ℕ) (xs : List X) → i ≢ j → slice_get (changed f i xs) j ≡ slice_get xs j
get_changed f i j [] ne = refl
get_changed f zero zero (x ∷ xs) ne = absurd (ne refl)
get_changed f zero (suc j) (x ∷ xs) ne = refl
get_changed f (suc i) zero (x ∷ xs) ne = refl
get_changed f (suc i) (suc j) (x ∷ xs) ne = get_changed f i j xs (λ e. ne (ap suc e))

get_changed_same : {X : Type 0} (f : X → X) (i : ℕ) (xs : List X) → slice_get (changed f i xs) i ≡ option_map f (slice_get xs i)
get_changed_same f i [] = refl
get_changed_same f zero (x ∷ xs) = refl
get_changed_same f (suc i) (x ∷ xs) = get_changed_same f i xs

pub length-changed : {X : Type 0} (f : X → X) (i : ℕ) (xs : List X) → length (changed f i xs) ≡ length xs
length-changed f i [] = refl
length-changed f zero (x ∷ xs) = refl
length-changed f (suc i) (x ∷ xs) = ap suc (length-changed f i xs)

pub set_changed : {X : Type 0} (f : X → X) (i : ℕ) (xs : List X) (x : X) → slice_get xs i ≡ Some x → set xs i (f x) ≡ changed f i xs
set_changed f i [] x e = absurd (cc)
set_changed f zero (y ∷ xs) x e = let q : y ≡ x = cc in ap (λ z. f z ∷ xs) (sym q)
set_changed f (suc i) (y ∷ xs) x e = ap (λ ys. y ∷ ys) (set_changed f i xs x e)

module _ {X : Type 0} where
  pub at_below : (place first : ℕ) (xs : List X) → place < first → item_at place first xs ≡ None
  unfolding item_at
  at_below place first xs h = let t : ltb place first ≡ true = grind (arith, nat_tests) in rw t refl

  pub at_from : (place first : ℕ) (xs : List X) → first ≤ place → item_at place first xs ≡ slice_get xs (place - first)
  unfolding item_at
  at_from place first xs h = let t : ltb place first ≡ false = grind (arith, nat_tests) in rw t refl

  pub at_past : (place first : ℕ) (xs : List X) → first + length xs ≤ place → item_at place first xs ≡ None
  at_past place first xs h = at_from place first xs (omega arith) ∙ slice_get_past xs (place - first) (omega arith)

  pub at_within : (place first : ℕ) (xs : List X) (x : X) → item_at place first xs ≡ Some x → (first ≤ place) × (place < first + length xs)
  at_within place first xs x e = elim (cases_lt place first) [
    | inl q ↦ let n = at_below place first xs q in absurd (cc)
    | inr q ↦ let b = slice_get_within xs (place - first) x (sym (at_from place first xs q) ∙ e) in (q, omega (arith, b, q))
  ]

  pub none_at : (place first : ℕ) (xs : List X) → length xs ≡ 0 → item_at place first xs ≡ None
  none_at place first xs none = elim (cases_lt place first) [
    | inl q ↦ at_below place first xs q
    | inr q ↦ at_past place first xs (omega arith)
  ]

  pub at_there : (place first : ℕ) (xs : List X) → first ≤ place → place < first + length xs → (x : X) × (item_at place first xs ≡ Some x)
  at_there place first xs low high =
      let p = at_index xs (place - first) (omega arith) in
      (p.0, at_from place first xs low ∙ p.1)

  pub at_read : (place first : ℕ) (xs : List X) (x : X) → first ≤ place → place - first < length xs → x ≡ get_or xs (place - first) x → item_at place first xs ≡ Some x
  at_read place first xs x low inside read = at_from place first xs low ∙ slice_get_read xs (length xs) (place - first) x refl inside read

  -- two places of the same index
  same_index : (place first : ℕ) (xs ys : List X) → (first ≤ place → slice_get xs (place - first) ≡ slice_get ys (place - first)) → item_at place first xs ≡ item_at place first ys
  same_index place first xs ys same = elim (cases_lt place first) [
    | inl q ↦ at_below place first xs q ∙ sym (at_below place first ys q)
    | inr q ↦ at_from place first xs q ∙ same q ∙ sym (at_from place first ys q)
  ]

  pub pushed_last : (first : ℕ) (xs : List X) (x : X) → item_at (first + length xs) first (xs ++ x ∷ []) ≡ Some x
  pushed_last first xs x =
      let at : first + length xs - first ≡ length xs = omega arith in
      at_from (first + length xs) first (xs ++ x ∷ []) (omega arith) ∙ ap (slice_get (xs ++ x ∷ [])) at ∙ get_pushed_last xs x

  pub pushed_other : (place first : ℕ) (xs : List X) (x : X) → place ≢ first + length xs → item_at place first (xs ++ x ∷ []) ≡ item_at place first xs
  pushed_other place first xs x ne = same_index place first (xs ++ x ∷ []) xs (λ q. let apart : (place - first) ≢ length xs = omega arith in get_pushed xs x (place - first) apart)

  pub dropped_other : (place first : ℕ) (xs : List X) → place ≢ first → item_at place (first + 1) (drop 1 xs) ≡ item_at place first xs
  dropped_other place first xs ne = elim (cases_lt place first) [
    | inl q ↦ at_below place (first + 1) (drop 1 xs) (omega arith) ∙ sym (at_below place first xs q)
    | inr q ↦
        let next : suc (place - (first + 1)) ≡ place - first = omega arith in
        at_from place (first + 1) (drop 1 xs) (omega arith) ∙ get_first_dropped xs (place - (first + 1)) ∙ ap (slice_get xs) next ∙ sym (at_from place first xs q)
  ]

  pub left_other : (place first : ℕ) (xs : List X) → place + 1 ≢ first + length xs → 0 < length xs → item_at place first (take (length xs - 1) xs) ≡ item_at place first xs
  left_other place first xs ne some = same_index place first (take (length xs - 1) xs) xs (λ q. elim (cases_lt (place - first) (length xs - 1)) [
    | inl b ↦ get_front xs (length xs - 1) (place - first) b
    | inr b ↦ get_past_front xs (length xs - 1) (place - first) b ∙ sym (slice_get_past xs (place - first) (omega arith))
  ])

  pub left_last : (place first : ℕ) (xs : List X) → place + 1 ≡ first + length xs → item_at place first (take (length xs - 1) xs) ≡ None
  left_last place first xs e = elim (cases_lt place first) [
    | inl q ↦ at_below place first (take (length xs - 1) xs) q
    | inr q ↦ at_from place first (take (length xs - 1) xs) q ∙ get_past_front xs (length xs - 1) (place - first) (omega arith)
  ]

  pub changed_same : (f : X → X) (place first : ℕ) (xs : List X) (x : X) → item_at place first xs ≡ Some x → item_at place first (changed f (place - first) xs) ≡ Some (f x)
  changed_same f place first xs x e =
      let w = at_within place first xs x e in
      at_from place first (changed f (place - first) xs) w.0 ∙ get_changed_same f (place - first) xs ∙ ap (option_map f) (sym (at_from place first xs w.0) ∙ e)

  pub changed_other : (f : X → X) (place at first : ℕ) (xs : List X) → first ≤ place → at ≢ place → item_at at first (changed f (place - first) xs) ≡ item_at at first xs
  changed_other f place at first xs low ne = same_index at first (changed f (place - first) xs) xs (λ q. let apart : (place - first) ≢ (at - first) = omega arith in get_changed f (place - first) (at - first) xs apart)
