-- Pairs of values that wait to be compared.
use Rattle.std.specs.Prelude.{◌≡◌, ℕ, List, map, sum}
use Rattle.std.specs.Borrow.{Bor}
use Rattle.resp_core.specs.Reply.{Reply}
use Rattle.resp_core.specs.View.{view}
use Rattle.resp_core.specs.Freeing.{steps_in}
use Rattle.resp_core.specs.declared.value.Value.{Value}

abbrev pub left : Bor Value × Bor Value → Reply
left p = view p.0.now

abbrev pub right : Bor Value × Bor Value → Reply
right p = view p.1.now

-- the two values of each pair stand for the same reply
abbrev pub AreSame : List (Bor Value × Bor Value) → Type 0
AreSame ps = map left ps ≡ map right ps

-- a bound on the pairs that are still to be compared
abbrev pub steps_waiting : List (Bor Value × Bor Value) → ℕ
steps_waiting ps = sum (map (λ p. steps_in (left p)) ps)
