-- A part of a call changes.
use Rattle.std.specs.List.{slice_get}
use Rattle.session_machine.specs.Part.{Keeps}
use Rattle.std.proofs.Common.{subst, Some, ◌≡◌, ◌<◌, ◌≤◌, ◌+◌, ℕ, zero, suc, List, [], ◌∷◌, length, get_or, set, map, refl, sym, ap, ◌∙◌, add-one, arith}
use Rattle.std.proofs.lemmas.Option.{slice_get_read, same_Some}
use Rattle.session_core.specs.Places.{changed}
use Rattle.session_core.specs.Part.{Phase, PartState}
use Rattle.session_core.specs.State.{CallState}
use Rattle.session_core.proofs.Places.{set_changed}
use Rattle.session_machine.specs.Calls.{with_phase}
use Rattle.session_machine.proofs.Numbers.{changed_past}

-- ---- the first items change

abbrev pub first_mapped : {X : Type 0} → (X → X) → ℕ → List X → List X
first_mapped f zero xs = xs
first_mapped f (suc n) [] = []
first_mapped f (suc n) (x ∷ xs) = f x ∷ first_mapped f n xs

mapped_suc : {X : Type 0} (f : X → X) (n : ℕ) (xs : List X) (x d : X) → n < length xs → x ≡ get_or (first_mapped f n xs) n d → set (first_mapped f n xs) n (f x) ≡ first_mapped f (suc n) xs
mapped_suc f n [] x d h e = absurd (omega arith)
mapped_suc f zero (y ∷ xs) x d h e = ap (λ z. f z ∷ xs) e
mapped_suc f (suc n) (y ∷ xs) x d h e = ap (λ ys. f y ∷ ys) (mapped_suc f n xs x d (omega arith) e)

pub mapped_next : {X : Type 0} (f : X → X) (n : ℕ) (xs : List X) (x d : X) → n < length xs → x ≡ get_or (first_mapped f n xs) n d → set (first_mapped f n xs) n (f x) ≡ first_mapped f (n + 1) xs
mapped_next f n xs x d h e = rw add-one (mapped_suc f n xs x d h e)

pub mapped_all : {X : Type 0} (f : X → X) (n : ℕ) (xs : List X) → length xs ≤ n → first_mapped f n xs ≡ map f xs
mapped_all f zero [] h = refl
mapped_all f (suc n) [] h = refl
mapped_all f zero (x ∷ xs) h = absurd (omega arith)
mapped_all f (suc n) (x ∷ xs) h = ap (λ ys. f x ∷ ys) (mapped_all f n xs (omega arith))

-- ---- one part changes

pub with_part : (s now : CallState) (part : ℕ) (phase : CallState → PartState → Phase) (x y : PartState)
    → s ≡ now → part < length s.parts → x ≡ get_or s.parts part x → y ≡ record x { phase = phase s x }
    → ◌≡◌ {A = CallState} (record { caller = s.caller; parts = set s.parts part y; is_wanted = s.is_wanted }) (with_phase part phase now)
with_part s now part phase x y e within read is =
    let f : PartState → PartState = λ p. record p { phase = phase s p } in
    let g : List PartState → CallState = λ ps. record { caller = s.caller; parts = ps; is_wanted = s.is_wanted } in
    let parts : set s.parts part y ≡ changed f part s.parts = ap (set s.parts part) is ∙ set_changed f part s.parts x (slice_get_read s.parts (length s.parts) part x refl within read) in
    ap g parts ∙ ap (with_phase part phase) e

pub no_part : (s now : CallState) (part : ℕ) (phase : CallState → PartState → Phase) → s ≡ now → length s.parts ≤ part → now ≡ with_phase part phase now
no_part s now part phase e past =
    let f : PartState → PartState = λ p. record p { phase = phase s p } in
    let g : List PartState → CallState = λ ps. record { caller = s.caller; parts = ps; is_wanted = s.is_wanted } in
    sym e ∙ ap g (sym (changed_past f part s.parts past)) ∙ ap (with_phase part phase) e

-- ---- the part that changed

pub get_set_same : {X : Type 0} (xs : List X) (i : ℕ) (x : X) → i < length xs → slice_get (set xs i x) i ≡ Some x
get_set_same [] i x h = absurd (omega arith)
get_set_same (y ∷ xs) zero x h = refl
get_set_same (y ∷ xs) (suc i) x h = get_set_same xs i x (omega arith)

pub kept_part : (parts : List PartState) (part : ℕ) (y : PartState) (reply : List ℕ) → part < length parts → Keeps reply y.phase → (p : PartState) → slice_get (set parts part y) part ≡ Some p → Keeps reply p.phase
kept_part parts part y reply within kept p e =
    let same : y ≡ p = same_Some y p (sym (get_set_same parts part y within) ∙ e) in
    subst (λ (q : PartState). Keeps reply q.phase) same kept
