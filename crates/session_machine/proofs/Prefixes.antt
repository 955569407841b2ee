-- What it means for bytes to begin with one text and then another.
use Rattle.std.proofs.Common.{◌≡◌, ◌++◌, ◌&&◌, ℕ, Bool, true, false, List, [], ◌∷◌, length, drop, nat_eq, codes, decimal, refl, sym, ap, ◌∙◌, append_assoc}
use Rattle.std.specs.List.{starts_with}
use Rattle.std.proofs.lemmas.Bool.{false≢true}
use Rattle.resp_core.proofs.Cases.{by_test}
use Rattle.resp.specs.Forms.{crlf}
use Rattle.session_core.specs.declared.part.PartOrder.{PartOrder}
use Rattle.session_core.specs.declared.part.PartOrder.TheVariants.{OfSlot, Whole, Free}
use Rattle.session_core.specs.Part.{PartState, is_redirect, is_error, is_refusal}

pub starts_more : (xs p more : List ℕ) → starts_with nat_eq xs p ≡ true → starts_with nat_eq xs (p ++ more) ≡ starts_with nat_eq (drop (length p) xs) more
starts_more xs [] more e = refl
starts_more [] (y ∷ p) more e = absurd (false≢true e)
starts_more (x ∷ xs) (y ∷ p) more e =
    by_test (nat_eq y x)
    (λ k. rw k (starts_more xs p more (rw k at e)))
    (λ k. absurd (false≢true (rw k at e)))

pub starts_never : (xs p more : List ℕ) → starts_with nat_eq xs p ≡ false → starts_with nat_eq xs (p ++ more) ≡ false
starts_never xs [] more e = absurd (false≢true (sym e))
starts_never [] (y ∷ p) more e = refl
starts_never (x ∷ xs) (y ∷ p) more e =
    by_test (nat_eq y x)
    (λ k. rw k (starts_never xs p more (rw k at e)))
    (λ k. rw k refl)

-- a name, a space, digits and a space, each found after the one before
pub found_in_turn : (reply rest number name digits text space : List ℕ) (found : Bool) → text ≡ digits
    → ((more : List ℕ) → starts_with nat_eq reply (name ++ more) ≡ starts_with nat_eq rest more)
    → ((more : List ℕ) → starts_with nat_eq rest (space ++ more) ≡ starts_with nat_eq number more)
    → starts_with nat_eq number (digits ++ space) ≡ found
    → found ≡ starts_with nat_eq reply (name ++ space ++ text ++ space)
found_in_turn reply rest number name digits text space found is first second third =
    let apart : name ++ space ++ text ++ space ≡ name ++ (space ++ (text ++ space)) = simp append_assoc in
    sym (ap (starts_with nat_eq reply) apart ∙ first (space ++ (text ++ space)) ∙ second (text ++ space)
    ∙ ap (λ t. starts_with nat_eq number (t ++ space)) is ∙ third)

-- ---- a reply that is no error

no_redirect : (reply name : List ℕ) (order : PartOrder) → starts_with nat_eq reply (codes "-") ≡ false → is_redirect reply (codes "-" ++ name) order ≡ false
no_redirect reply name (OfSlot slot) none = starts_never reply (codes "-") (name ++ codes " " ++ decimal slot ++ codes " ") none
no_redirect reply name Whole none = refl
no_redirect reply name Free none = refl

no_error : (reply name : List ℕ) → starts_with nat_eq reply (codes "-") ≡ false → is_error reply (codes "-" ++ name) ≡ false
no_error reply name none = rw (starts_never reply (codes "-") (name ++ codes " ") none, starts_never reply (codes "-") (name ++ crlf) none) refl

and_false : (b : Bool) → (b && false) ≡ false
and_false true = refl
and_false false = refl

pub no_refusal : (p : PartState) (reply : List ℕ) → starts_with nat_eq reply (codes "-") ≡ false → is_refusal p reply ≡ false
no_refusal p reply none =
    rw (no_redirect reply (codes "MOVED") p.order none, no_redirect reply (codes "ASK") p.order none, no_error reply (codes "TRYAGAIN") none, no_error reply (codes "CLUSTERDOWN") none, no_error reply (codes "LOADING") none)
    (and_false p.may_refuse)
