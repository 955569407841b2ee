use Rattle.std.proofs.Common.{arith, ◌<◌, length}
use Rattle.slotroute_serve.proofs.Reading.{something_there}
use Rattle.slotroute_serve.proofs.input.next_line.Goals as goal

pub returns-clause-there : goal.returns-clause-there
returns-clause-there g c =
    let some : 0 < length c.read_line.new.line.items = omega (arith, c.in_ok-read_line.ensures.ok, c.if-branch-eq0.false, c.clear.ensures.len) in
    something_there (g.S.Source.remaining c.args.source.now) c.read_line.new.line.items (rw c.clear.ensures.items at c.in_ok-read_line.ensures.bytes) some
