use Rattle.std.proofs.Common.{◌≡◌, ◌<◌, true, ℕ, Some, slice_get}
use Rattle.session_core.specs.Part.{PartState}
use Rattle.session_machine.specs.Ties.{is_ordered}
use Rattle.rows.proofs.sessions.parts.are_ordered.Given as goal

abbrev pub invariant-loop-at : goal.invariant-loop-at
invariant-loop-at l = (i : ℕ) (p : PartState) → i < l.at → slice_get l.parts i ≡ Some p → is_ordered p.order ≡ true
