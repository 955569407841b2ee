-- What an equation of constructors says of their parts.
use Rattle.std.proofs.Common.{◌≡◌, List, ◌∷◌, Some, None, Option, IfSome, subst}

pub same_some : {A : Type 0} (x y : A) → Some x ≡ Some y → x ≡ y
same_some x y h = cc

pub none_apart : {A : Type 0} (x : A) → None ≡ Some x → ⊥
none_apart x h = cc

pub same_head : {X : Type 0} {x y : X} {xs ys : List X} → x ∷ xs ≡ y ∷ ys → x ≡ y
same_head e = cc

pub same_tail : {X : Type 0} {x y : X} {xs ys : List X} → x ∷ xs ≡ y ∷ ys → xs ≡ ys
same_tail e = cc

-- what holds of an option that is there
pub of_some : {X : Type 0} (P : X → Type 0) (o : Option X) (x : X) → o ≡ Some x → IfSome o P → P x
of_some P o x is holds = subst (λ v. IfSome v P) is holds
