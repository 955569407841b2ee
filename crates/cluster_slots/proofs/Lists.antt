-- Lists without a byte, and the one way to cut a list at its first or last.
use Rattle.std.proofs.Common.{◌≡◌, ◌≢◌, ℕ, zero, suc, List, [], ◌∷◌, ◌++◌, refl, ap, sym, ◌∙◌, subst, arith}
use Rattle.std.specs.Prelude.{Contains}

-- no element of xs is b
abbrev pub Lacks : ℕ → List ℕ → Type 0
Lacks b [] = Unit {0}
Lacks b (x ∷ xs) = (x ≢ b) × Lacks b xs

pub lacks_from : (b : ℕ) (xs : List ℕ) → ¬ (Contains xs b) → Lacks b xs
lacks_from b [] f = tt
lacks_from b (x ∷ xs) f = ((λ e. f (0, omega arith, e)), lacks_from b xs (λ w. f (suc w.0, omega (arith, w.1), w.2)))

pub free_from : (b : ℕ) (xs : List ℕ) → Lacks b xs → ¬ (Contains xs b)
free_from b [] h (k, l, e) = absurd (omega arith)
free_from b (x ∷ xs) h (zero, l, e) = h.0 e
free_from b (x ∷ xs) h (suc k, l, e) = free_from b xs h.1 (k, omega arith, e)

-- what has b does not lack it
pub has : (b : ℕ) (xs ys : List ℕ) → ¬ (Lacks b (xs ++ b ∷ ys))
has b [] ys h = h.0 refl
has b (x ∷ xs) ys h = has b xs ys h.1

-- there is one cut at the first b
pub first_cut : (b : ℕ) (xs ys us vs : List ℕ) → xs ++ b ∷ ys ≡ us ++ b ∷ vs → Lacks b xs → Lacks b us → (xs ≡ us) × (ys ≡ vs)
first_cut b [] ys [] vs e h k = (refl, cc)
first_cut b [] ys (u ∷ us) vs e h k = let q : u ≡ b = cc in absurd (k.0 q)
first_cut b (x ∷ xs) ys [] vs e h k = let q : x ≡ b = cc in absurd (h.0 q)
first_cut b (x ∷ xs) ys (u ∷ us) vs e h k =
    let q : x ≡ u = cc in
    let r : xs ++ b ∷ ys ≡ us ++ b ∷ vs = cc in
    let w = first_cut b xs ys us vs r h.1 k.1 in
    (ap (λ z. z ∷ xs) q ∙ ap (λ z. u ∷ z) w.0, w.1)

-- there is one cut at the last b
pub last_cut : (b : ℕ) (xs ys us vs : List ℕ) → xs ++ b ∷ ys ≡ us ++ b ∷ vs → Lacks b ys → Lacks b vs → (xs ≡ us) × (ys ≡ vs)
last_cut b [] ys [] vs e h k = (refl, cc)
last_cut b [] ys (u ∷ us) vs e h k = let q : ys ≡ us ++ b ∷ vs = cc in absurd (has b us vs (subst (Lacks b) q h))
last_cut b (x ∷ xs) ys [] vs e h k = let q : xs ++ b ∷ ys ≡ vs = cc in absurd (has b xs ys (subst (Lacks b) (sym q) k))
last_cut b (x ∷ xs) ys (u ∷ us) vs e h k =
    let q : x ≡ u = cc in
    let r : xs ++ b ∷ ys ≡ us ++ b ∷ vs = cc in
    let w = last_cut b xs ys us vs r h k in
    (ap (λ z. z ∷ xs) q ∙ ap (λ z. u ∷ z) w.0, w.1)
