use Rattle.std.proofs.Common.{◌≡◌, ◌<◌, false, ℕ, Some, slice_get}
use Rattle.session_core.specs.Part.{PartState, have_slot}
use Rattle.rows.proofs.sessions.parts.is_apart.Given as goal

abbrev pub invariant-loop-before : goal.invariant-loop-before
invariant-loop-before l = (i : ℕ) (p q : PartState) → i < l.before → slice_get l.parts i ≡ Some p
    → slice_get l.parts l.at ≡ Some q → have_slot p.order q.order ≡ false
