use Rattle.std.proofs.Common.{◌≡◌, ◌+◌, ◌-◌, ◌≤◌, length}
use Rattle.resp.specs.Messages.{IsScanned}
use Rattle.resp.proofs.scanning.scan.Given as goal

-- the progress so far is within the bytes, and right if that at the call was
abbrev pub invariant-loop-items : goal.invariant-loop-items
invariant-loop-items l = (l.at.bytes + l.at.searched ≤ length l.bytes)
    × (IsScanned l.fn.progress l.bytes → IsScanned l.at l.bytes)
    × (l.progress ≡ l.fn.progress)

abbrev pub decreases-loop-items : goal.decreases-loop-items
decreases-loop-items l = length l.bytes - l.at.bytes
