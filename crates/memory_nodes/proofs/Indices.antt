-- The node at a place among a primary and its replicas.
use Rattle.std.proofs.Common.{◌≡◌, ◌<◌, ◌%◌, ◌-◌, ℕ, zero, suc, List, ◌∷◌, length, Some, slice_get, refl, arith}
use Rattle.std.proofs.lemmas.Grind.{common_steps}
use Rattle.std.proofs.Math.Nat.{mod-eq_of_lt}

pub at_later : {X : Type 0} (x y : X) (xs : List X) (place : ℕ) → ¬ (place ≡ 0) → place < length (x ∷ xs) → slice_get xs ((place - 1) % length xs) ≡ Some y → slice_get (x ∷ xs) place ≡ Some y
at_later x y xs zero later below there = absurd (later refl)
at_later x y xs (suc place) later below there = grind (arith, common_steps, mod-eq_of_lt)

pub at_last : {X : Type 0} (y : X) (xs : List X) → 0 < length xs → slice_get xs ((length xs - 1) % length xs) ≡ Some y → slice_get xs (length xs - 1) ≡ Some y
at_last y xs some there = grind (arith, common_steps, mod-eq_of_lt)
