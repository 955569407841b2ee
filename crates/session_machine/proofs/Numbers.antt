-- Lists of which one item changes, by its number.
use Rattle.std.proofs.Common.{◌≡◌, ◌≢◌, ◌≤◌, ◌+◌, ◌&&◌, ◌==◌, ℕ, zero, suc, true, false, eqb, List, [], ◌∷◌, length, refl, sym, ap, ◌∙◌, arith}
use Rattle.std.proofs.lemmas.Bool.{eqb-true, eq-eqb}
use Rattle.resp_core.proofs.Cases.{by_test}
use Rattle.session_core.specs.Places.{changed}
use Rattle.session_core.specs.State.{numbered}
use Rattle.session_core.proofs.AfterEvents.{numbered_same}

pub changed_past : {X : Type 0} (f : X → X) (i : ℕ) (xs : List X) → length xs ≤ i → changed f i xs ≡ xs
changed_past f i [] h = refl
changed_past f zero (x ∷ xs) h = absurd (omega arith)
changed_past f (suc i) (x ∷ xs) h = ap (λ ys. x ∷ ys) (changed_past f i xs (omega arith))

pub numbered_changed : {X : Type 0} (f : ℕ → X → X) (first i : ℕ) (g : X → X) (xs : List X) → ((k : ℕ) (x : X) → k ≢ first + i → f k x ≡ x) → ((x : X) → f (first + i) x ≡ g x) → numbered f first xs ≡ changed g i xs
numbered_changed f first i g [] same here = refl
numbered_changed f first zero g (x ∷ xs) same here =
    let at : first ≡ first + 0 = omega arith in
    let own : f first x ≡ g x = ap (λ k. f k x) at ∙ here x in
    rw (own, numbered_same f (first + 1) xs (λ k y le. same k y (λ e. omega arith))) refl
numbered_changed f first (suc i) g (x ∷ xs) same here =
    let place : first + 1 + i ≡ first + suc i = omega arith in
    let rest = numbered_changed f (first + 1) i g xs (λ k y apart. same k y (λ e. apart (e ∙ sym place))) (λ y. ap (λ k. f k y) place ∙ here y) in
    rw (same first x (λ e. omega arith), rest) refl

pub same_pair : (call part : ℕ) → ((call == call) && (part == part)) ≡ true
same_pair call part = rw (eq-eqb call call refl, eq-eqb part part refl) refl

pub other_pair : (call part n q : ℕ) → ((n ≡ call) × (q ≡ part) → ⊥) → ((call == n) && (part == q)) ≡ false
other_pair call part n q apart =
    by_test (eqb call n)
    (λ k. by_test (eqb part q)
    (λ l. absurd (apart (sym (eqb-true call n k), sym (eqb-true part q l))))
    (λ l. rw (k, l) refl))
    (λ k. rw k refl)

pub other_number : (call n : ℕ) → n ≢ call → (call == n) ≡ false
other_number call n apart = by_test (eqb call n) (λ k. absurd (apart (sym (eqb-true call n k)))) (λ k. k)
