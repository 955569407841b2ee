-- What is found so far, before what is still to find.
use Rattle.std.proofs.Common.{◌≡◌, List, [], ◌∷◌, ◌++◌, Option, Some, None, refl, ap, sym, append_assoc}
use Rattle.std.specs.Prelude.{option_map}

abbrev pub before : {X : Type 0} → List X → Option (List X) → Option (List X)
before xs o = option_map (λ ys. xs ++ ys) o

pub before-more : {X : Type 0} (xs : List X) (x : X) (o : Option (List X)) → before xs (option_map (λ ys. x ∷ ys) o) ≡ before (xs ++ x ∷ []) o
before-more xs x None = refl
before-more xs x (Some ys) = ap Some (sym (append_assoc xs (x ∷ []) ys))
