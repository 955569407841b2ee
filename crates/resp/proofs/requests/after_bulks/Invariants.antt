use Rattle.std.proofs.Common.{◌≡◌, ◌-◌}
use Rattle.resp.specs.Reading.{rest_of}
use Rattle.resp.specs.Requests.{bulks_at}
use Rattle.resp.proofs.requests.after_bulks.Given as goal

-- what follows the words that are left
abbrev pub invariant-loop : goal.invariant-loop
invariant-loop l = rest_of (bulks_at (l.count - l.counter) l.rest) ≡ rest_of (bulks_at l.count l.bytes)
