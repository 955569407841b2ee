-- Parts that are handed over one after the other, each with its node.
use Rattle.std.proofs.Common.{◌≡◌, ◌≤◌, ℕ, zero, suc, ◌+◌, List, [], ◌∷◌, ◌++◌, None, Some, refl, ap, ◌∙◌, arith, length, map, take}
use Rattle.std.proofs.lemmas.Grind.{common_steps}
use Rattle.std.specs.Prelude.{slice_get}
use Rattle.std.specs.List.{AllZip, zip}
use Rattle.std.proofs.lemmas.List.{take_more}
use Rattle.std.proofs.lemmas.Option.{get_or_from_slice_get, slice_get_within}

module _ {A B : Type 0} where
  -- what stands beside what
  pub zip_at : (xs : List A) (ys : List B) (k : ℕ) (x : A) (y : B) → slice_get xs k ≡ Some x → slice_get ys k ≡ Some y → slice_get (zip xs ys) k ≡ Some (x, y)
  zip_at [] ys k x y first second = absurd (cc first)
  zip_at (a ∷ xs) [] k x y first second = absurd (cc second)
  zip_at (a ∷ xs) (b ∷ ys) zero x y first second = let one : a ≡ x = cc in let other : b ≡ y = cc in ap (λ v. Some (v, b)) one ∙ ap (λ v. Some (x, v)) other
  zip_at (a ∷ xs) (b ∷ ys) (suc k) x y first second = zip_at xs ys k x y first second

  -- none of the first
  pub zip_no_first : (xs : List A) (ys : List B) (k : ℕ) → slice_get xs k ≡ None → slice_get (zip xs ys) k ≡ None
  zip_no_first [] ys k none = refl
  zip_no_first (a ∷ xs) [] k none = refl
  zip_no_first (a ∷ xs) (b ∷ ys) zero none = absurd (cc none)
  zip_no_first (a ∷ xs) (b ∷ ys) (suc k) none = zip_no_first xs ys k none

  -- or of the second
  pub zip_no_second : (xs : List A) (ys : List B) (k : ℕ) → slice_get ys k ≡ None → slice_get (zip xs ys) k ≡ None
  zip_no_second [] ys k none = refl
  zip_no_second (a ∷ xs) [] k none = refl
  zip_no_second (a ∷ xs) (b ∷ ys) zero none = absurd (cc none)
  zip_no_second (a ∷ xs) (b ∷ ys) (suc k) none = zip_no_second xs ys k none

  pub zip_within : (xs : List A) (ys : List B) → length (zip xs ys) ≤ length xs
  zip_within [] ys = omega arith
  zip_within (a ∷ xs) [] = omega arith
  zip_within (a ∷ xs) (b ∷ ys) = let rest = zip_within xs ys in omega (arith, rest)

-- one more
pub take_next : {X : Type 0} (xs : List X) (k : ℕ) (x : X) → slice_get xs k ≡ Some x → take (k + 1) xs ≡ take k xs ++ x ∷ []
take_next xs k x at = take_more xs k x (slice_get_within xs k x at) ∙ ap (λ y. take k xs ++ y ∷ []) (get_or_from_slice_get xs k x x at)

-- or none more
pub take_past : {X : Type 0} (xs : List X) (k : ℕ) → slice_get xs k ≡ None → take (k + 1) xs ≡ take k xs
take_past [] zero at = refl
take_past [] (suc k) at = let more : suc k + 1 ≡ suc (k + 1) = omega arith in ap (λ n. take n []) more
take_past (y ∷ xs) zero at = absurd (cc at)
take_past (y ∷ xs) (suc k) at = grind (arith, common_steps, take_past xs k)

-- what holds beside each of three lists
pub beside_both : {R A B : Type 0} (P : R → A → Type 0) (Q : R → B → Type 0) {S : Type 0} (f : R → S) (O : S → A × B → Type 0) → ((r : R) (a : A) (b : B) → P r a → Q r b → O (f r) (a, b))
    → (rs : List R) (xs : List A) (ys : List B) → AllZip P rs xs → AllZip Q rs ys → AllZip O (map f rs) (zip xs ys)
beside_both P Q f O both [] [] [] first second = tt
beside_both P Q f O both [] [] (y ∷ ys) first second = absurd second
beside_both P Q f O both [] (x ∷ xs) ys first second = absurd first
beside_both P Q f O both (r ∷ rs) [] ys first second = absurd first
beside_both P Q f O both (r ∷ rs) (x ∷ xs) [] first second = absurd second
beside_both P Q f O both (r ∷ rs) (x ∷ xs) (y ∷ ys) first second = (both r x y first.0 second.0, beside_both P Q f O both rs xs ys first.1 second.1)
