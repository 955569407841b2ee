-- Pairs of values that wait to be compared, as more of two lists is gone over.
use Rattle.std.proofs.Common.{◌≡◌, ◌↔◌, ◌≤◌, ℕ, ◌+◌, ◌<◌, List, [], ◌∷◌, ◌++◌, length, get_or, map, take, sym, ap, ◌∙◌, arith}
use Rattle.std.proofs.lemmas.List.{map-append, take_more}
use Rattle.std.proofs.lemmas.Grind.{common_steps}
use Rattle.resp_core.specs.Reply.{Reply, nil, int, bulk, array, simple, okay, pairs}
use Rattle.resp_core.specs.Freeing.{steps_in, steps_in_value}

pub map-take_more : {A B : Type 0} (f : A → B) (xs : List A) (n : ℕ) (x : A) → n < length xs → x ≡ get_or xs n x → map f (take (n + 1) xs) ≡ map f (take n xs) ++ f x ∷ []
map-take_more f xs n x h at = ap (map f) (take_more xs n x h) ∙ map-append f (take n xs) (get_or xs n x ∷ []) ∙ ap (λ v. map f (take n xs) ++ f v ∷ []) (sym at)

-- P' holds where P does and one more of both lists is the same
pub same-more : {A : Type 0} (P₀ P P' : Type 0) (xs ys vs ws : List A) (x y : A) → vs ≡ xs ++ x ∷ [] → ws ≡ ys ++ y ∷ [] → (P ↔ (P₀ × (xs ≡ ys))) → (P' ↔ (P × (x ≡ y))) → (P' ↔ (P₀ × (vs ≡ ws)))
same-more P₀ P P' xs ys vs ws x y is-vs is-ws before after = grind (arith, common_steps)

pub same-both : {A B : Type 0} (P P' P'' : Type 0) (p q : A × B) → (P' ↔ (P × (p.0 ≡ q.0))) → (P'' ↔ (P' × (p.1 ≡ q.1))) → (P'' ↔ (P × (p ≡ q)))
same-both P P' P'' p q first second = grind (arith, common_steps)

pub steps_in_value-le : (r : Reply) → steps_in_value r ≤ steps_in r
steps_in_value-le nil = omega arith
steps_in_value-le (int n) = omega arith
steps_in_value-le (bulk bytes) = omega arith
steps_in_value-le (array items) = omega arith
steps_in_value-le (simple text) = omega arith
steps_in_value-le okay = omega arith
steps_in_value-le (pairs items) = omega arith
