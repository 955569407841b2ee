use Rattle.std.proofs.Common.{◌≡◌, ℕ, length}
use Rattle.std.specs.Prelude.{IfSome, slice_get}
use Rattle.redis_session.specs.Plans.{IsPartAt}
use Rattle.redis_session.proofs.plan.slot_parts.Given as goal

-- the parts of the first routes
abbrev pub invariant-loop-number : goal.invariant-loop-number
invariant-loop-number l = record {
  all : length l.parts.items ≡ l.number;
  each : (number : ℕ) → IfSome (slice_get l.parts.items number) (IsPartAt l.split number);
}
