-- The requests of a link's own.
use Rattle.std.proofs.Common.{◌≡◌, ℕ, List, [], ◌∷◌, ap}
use Rattle.session_core.specs.declared.link.Ticket.{Ticket}
use Rattle.session_core.specs.declared.link.Ticket.TheVariants.{Login, Map, Part}
use Rattle.session_core.specs.Channel.{Ask}
use Rattle.session_core.specs.LinkEvents as link
use Rattle.session_core.specs.State.{State, MayPut}
use Rattle.session_core.proofs.AfterEvents.{only_one}

pub login_put : (s : State) (number : ℕ) (request : List ℕ) → MayPut s number (link.Put ((Login, request) ∷ []))
login_put s number request = λ call part other there.
    let same : ◌≡◌ {A = Ask} (Login, request) (Part call part, other) = only_one _ _ there in
    let two : ◌≡◌ {A = Ticket} Login (Part call part) = ap (λ (a : Ask). a.0) same in
    absurd (cc)

pub map_put : (s : State) (number count : ℕ) (request : List ℕ) → MayPut s number (link.Put ((Map count, request) ∷ []))
map_put s number count request = λ call part other there.
    let same : ◌≡◌ {A = Ask} (Map count, request) (Part call part, other) = only_one _ _ there in
    let two : ◌≡◌ {A = Ticket} (Map count) (Part call part) = ap (λ (a : Ask). a.0) same in
    absurd (cc)
