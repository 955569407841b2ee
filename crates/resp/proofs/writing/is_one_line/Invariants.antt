use Rattle.std.proofs.Common.{take}
use Rattle.std.specs.List.{AllByRecursion}
use Rattle.resp.specs.Forms.{IsInLine}
use Rattle.resp.proofs.writing.is_one_line.Given as goal

abbrev pub invariant-loop-b : goal.invariant-loop-b
invariant-loop-b l = AllByRecursion IsInLine (take l.b-index l.text)
