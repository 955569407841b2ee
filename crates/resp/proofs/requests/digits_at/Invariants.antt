use Rattle.std.proofs.Common.{◌≡◌, ◌<◌, ◌^◌, false, drop, ltb}
use Rattle.resp.specs.Requests.{digits_at}
use Rattle.resp.proofs.requests.digits_at.Given as goal

-- the digits so far, and those that follow
abbrev pub invariant-loop-index : goal.invariant-loop-index
invariant-loop-index l = (digits_at (2 ^ 63) (ltb 0 l.index) l.number (drop l.index l.bytes) ≡ digits_at (2 ^ 63) false 0 l.bytes) × (l.number < 2 ^ 63)
