-- When a part may be put on a link, alone or after `ASKING`.
use Rattle.std.proofs.Common.{◌≡◌, inl, inr, ℕ, List, [], ◌∷◌, ap, subst}
use Rattle.std.proofs.lemmas.List.Elements.{Contains-append_cases}
use Rattle.session_core.specs.declared.link.Ticket.{Ticket}
use Rattle.session_core.specs.declared.link.Ticket.TheVariants.{Asking, Part}
use Rattle.session_core.specs.Channel.{Ask}
use Rattle.session_core.specs.LinkEvents as link
use Rattle.session_core.specs.LinkEvents.{asking}
use Rattle.session_core.specs.State.{State, MayAsk, MayPut}
use Rattle.session_core.proofs.AfterEvents.{only_one}

same_numbers : (c q call part : ℕ) → ◌≡◌ {A = Ticket} (Part c q) (Part call part) → (c ≡ call) × (q ≡ part)
same_numbers c q call part h = (cc, cc)

pub part_alone : (s : State) (number c q : ℕ) (request : List ℕ) → MayAsk s number c q request → MayPut s number (link.Put ((Part c q, request) ∷ []))
part_alone s number c q request may = λ call part other there.
    let same : ◌≡◌ {A = Ask} (Part c q, request) (Part call part, other) = only_one _ _ there in
    let numbers = same_numbers c q call part (ap (λ (a : Ask). a.0) same) in
    subst (λ n. MayAsk s number n part other) numbers.0 (subst (λ n. MayAsk s number c n other) numbers.1 (subst (λ r. MayAsk s number c q r) (ap (λ (a : Ask). a.1) same) may))

pub part_after_asking : (s : State) (number c q : ℕ) (request : List ℕ) → MayAsk s number c q request → MayPut s number (link.Put ((Asking, asking) ∷ (Part c q, request) ∷ []))
part_after_asking s number c q request may = λ call part other there. elim (Contains-append_cases {X = Ask} ((Asking, asking) ∷ []) ((Part c q, request) ∷ []) (Part call part, other) there) [
  | inl first ↦
      let same : ◌≡◌ {A = Ask} (Asking, asking) (Part call part, other) = only_one _ _ first in
      let two : ◌≡◌ {A = Ticket} Asking (Part call part) = ap (λ (a : Ask). a.0) same in
      absurd (cc)
  | inr second ↦ part_alone s number c q request may call part other second
]
