use Rattle.std.proofs.Common.{◌≡◌, ◌<◌, ℕ, Some, length, slice_get}
use Rattle.session_core.specs.Part.{PartState}
use Rattle.rows.proofs.sessions.parts.have_requests.Given as goal

abbrev pub invariant-loop-at : goal.invariant-loop-at
invariant-loop-at l = (i : ℕ) (p : PartState) → i < l.at → slice_get l.parts i ≡ Some p → 0 < length p.request
