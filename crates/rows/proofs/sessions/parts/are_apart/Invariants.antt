use Rattle.std.proofs.Common.{◌≡◌, ◌<◌, false, ℕ, Some, slice_get}
use Rattle.session_core.specs.Part.{PartState, have_slot}
use Rattle.rows.proofs.sessions.parts.are_apart.Given as goal

abbrev pub invariant-loop-at : goal.invariant-loop-at
invariant-loop-at l = (i j : ℕ) (p q : PartState) → i < j → j < l.at → slice_get l.parts i ≡ Some p
    → slice_get l.parts j ≡ Some q → have_slot p.order q.order ≡ false
