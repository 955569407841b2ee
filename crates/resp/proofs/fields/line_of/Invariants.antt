use Rattle.resp.proofs.Lines.{OpenUntil}
use Rattle.resp.proofs.fields.line_of.Given as goal

-- no end of a line stands before
abbrev pub invariant-loop-end : goal.invariant-loop-end
invariant-loop-end l = OpenUntil l.end l.bytes
