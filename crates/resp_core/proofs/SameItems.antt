-- Lists that differ at a place.
use Rattle.std.proofs.Common.{◌≡◌, ℕ, ◌<◌, List, length, get_or, map, arith}
use Rattle.std.proofs.lemmas.List.{get_or-map}

pub differ_from_item : {A B : Type 0} (f : A → B) (xs ys : List A) (i : ℕ) (x y : A) → (i < length xs) × (i < length ys) × ((d : A) → x ≡ get_or xs i d) × ((d : A) → y ≡ get_or ys i d) → ¬ (f x ≡ f y) → ¬ (map f xs ≡ map f ys)
differ_from_item f xs ys i x y at differ e = grind (arith, get_or-map f xs i x (f x) at.0, get_or-map f ys i y (f x) at.1)
