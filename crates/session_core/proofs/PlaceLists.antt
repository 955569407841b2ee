-- What stands at an index of a list that grows at its end and is forgotten at its front.
use Rattle.std.proofs.Common.{◌≡◌, ◌≢◌, ◌<◌, ◌+◌, ◌++◌, ℕ, zero, suc, List, [], ◌∷◌, length, drop, Some, refl, sym, ap, ◌∙◌, zero-add, arith}
use Rattle.std.specs.List.{slice_get}

pub get_pushed : {X : Type 0} (xs : List X) (x : X) (i : ℕ) → i ≢ length xs → slice_get (xs ++ x ∷ []) i ≡ slice_get xs i
get_pushed [] x zero ne = absurd (ne refl)
get_pushed [] x (suc i) ne = refl
get_pushed (y ∷ xs) x zero ne = refl
get_pushed (y ∷ xs) x (suc i) ne = get_pushed xs x i (λ e. ne (ap suc e))

pub get_pushed_last : {X : Type 0} (xs : List X) (x : X) → slice_get (xs ++ x ∷ []) (length xs) ≡ Some x
get_pushed_last [] x = refl
get_pushed_last (y ∷ xs) x = get_pushed_last xs x

pub at_index : {X : Type 0} (xs : List X) (i : ℕ) → i < length xs → (x : X) × (slice_get xs i ≡ Some x)
at_index [] i h = absurd (omega arith)
at_index (x ∷ xs) zero h = (x, refl)
at_index (x ∷ xs) (suc i) h = at_index xs i (omega arith)

pub get_first_dropped : {X : Type 0} (xs : List X) (i : ℕ) → slice_get (drop 1 xs) i ≡ slice_get xs (suc i)
get_first_dropped [] i = refl
get_first_dropped (x ∷ xs) i = refl

pub get_dropped : {X : Type 0} (n : ℕ) (xs : List X) (i : ℕ) → slice_get (drop n xs) i ≡ slice_get xs (n + i)
get_dropped zero xs i = ap (slice_get xs) (sym (zero-add i))
get_dropped (suc n) [] i = refl
get_dropped (suc n) (x ∷ xs) i = get_dropped n xs i ∙ ap (slice_get (x ∷ xs)) (let e : suc (n + i) ≡ suc n + i = omega arith in e)

pub get_before : {X : Type 0} (xs ys : List X) (i : ℕ) → i < length xs → slice_get (xs ++ ys) i ≡ slice_get xs i
get_before [] ys i h = absurd (omega arith)
get_before (x ∷ xs) ys zero h = refl
get_before (x ∷ xs) ys (suc i) h = get_before xs ys i (omega arith)
