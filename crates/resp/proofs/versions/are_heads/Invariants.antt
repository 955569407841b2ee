use Rattle.std.proofs.Common.{length, drop, ◌-◌, ◌≤◌, ◌↔◌}
use Rattle.resp.specs.Versions.{IsVersion2}
use Rattle.resp.proofs.versions.are_heads.Given as goal

-- the bytes are heads of version 2 exactly if those that are left are
abbrev pub invariant-loop-at : goal.invariant-loop-at
invariant-loop-at l = (l.at ≤ length l.bytes) × (IsVersion2 l.bytes ↔ IsVersion2 (drop l.at l.bytes))

abbrev pub decreases-loop-at : goal.decreases-loop-at
decreases-loop-at l = length l.bytes - l.at
