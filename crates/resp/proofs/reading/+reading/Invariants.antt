use Rattle.std.proofs.Common.{◌≡◌, ◌+◌, ◌-◌, ◌*◌}
use Rattle.resp.specs.Forms.{answers_in}
use Rattle.resp.specs.Reading.{times_at, answer_at}
use Rattle.resp.proofs.Times.{with_front}
use Rattle.resp.proofs.reading.+reading.Given as goal

abbrev pub decreases-response_at : goal.decreases-response_at
decreases-response_at l = 2 * l.levels

abbrev pub decreases-items_at : goal.decreases-items_at
decreases-items_at l = 2 * l.levels + 1

-- the answers so far, and those in what is left
abbrev pub invariant-items_at-loop : goal.invariant-items_at-loop
invariant-items_at-loop l = with_front (answers_in l.items) (times_at (answer_at l.levels) (l.count - l.counter) l.rest) ≡ times_at (answer_at l.levels) l.count l.bytes
