-- Two lists beside each other, element by element.
use Rattle.std.proofs.Common.{◌≡◌, ℕ, zero, suc, arith, length, List, [], ◌∷◌, Some, ap}
use Rattle.std.specs.Prelude.{slice_get}
use Rattle.std.specs.List.{zip}
use Rattle.redis_cluster.proofs.Constructors.{same_some}

-- what stands at a place is what stands there in each of the two
pub zip_at : {A B : Type 0} (xs : List A) (ys : List B) (k : ℕ) (t : A × B) → slice_get (zip xs ys) k ≡ Some t → (slice_get xs k ≡ Some t.0) × (slice_get ys k ≡ Some t.1)
zip_at [] ys k t h = absurd (cc h)
zip_at (u ∷ xs) [] k t h = absurd (cc h)
zip_at (u ∷ xs) (v ∷ ys) zero t h = (ap (λ o. Some o.0) (same_some (u, v) t h), ap (λ o. Some o.1) (same_some (u, v) t h))
zip_at (u ∷ xs) (v ∷ ys) (suc k) t h = zip_at xs ys k t h

-- the two beside each other are as long as each of them
pub zip_long : {A B : Type 0} (xs : List A) (ys : List B) (n : ℕ) → length xs ≡ n → length ys ≡ n → length (zip xs ys) ≡ n
zip_long [] ys n many same = many
zip_long (x ∷ xs) [] n many same = absurd (omega (arith, many, same))
zip_long (x ∷ xs) (y ∷ ys) zero many same = absurd (omega (arith, many))
zip_long (x ∷ xs) (y ∷ ys) (suc n) many same = ap suc (zip_long xs ys n (omega (arith, many)) (omega (arith, same)))
