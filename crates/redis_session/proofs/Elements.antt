-- What holds of each element of a list.
use Rattle.std.proofs.Common.{◌≡◌, ◌∷◌, [], ℕ, zero, suc, List, All, Some, subst}
use Rattle.std.specs.Prelude.{slice_get}
use Rattle.std.proofs.lemmas.Option.{same_Some}
use Rattle.std.proofs.lemmas.List.Elements.{All-cons, All-head, All-nil, All-tail}

-- what follows from it
pub all_as : {X : Type 0} (P Q : X → Type 0) (xs : List X) → ((x : X) → P x → Q x) → All P xs → All Q xs
all_as P Q [] then all = All-nil Q
all_as P Q (x ∷ xs) then all = All-cons Q x xs (then x (All-head P x xs all)) (all_as P Q xs then (All-tail P x xs all))

pub all_one : {X : Type 0} (P : X → Type 0) (x : X) → P x → All P (x ∷ [])
all_one P x is = All-cons P x [] is (All-nil P)

pub all_at : {X : Type 0} (P : X → Type 0) (xs : List X) (k : ℕ) (x : X) → All P xs → slice_get xs k ≡ Some x → P x
all_at P [] k x all at = absurd (cc at)
all_at P (y ∷ xs) zero x all at = subst P (same_Some y x at) (All-head P y xs all)
all_at P (y ∷ xs) (suc k) x all at = all_at P xs k x (All-tail P y xs all) at
