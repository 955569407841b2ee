use Rattle.std.proofs.Common.{◌+◌, take}
use Rattle.std.specs.List.{AllByRecursion}
use Rattle.resp.proofs.HeadGrammar.{IsZero}
use Rattle.resp.proofs.heads.zeros_of.Given as goal

-- zeros stand before
abbrev pub invariant-loop-index : goal.invariant-loop-index
invariant-loop-index l = AllByRecursion IsZero (take l.zeros l.text) → AllByRecursion IsZero (take (l.zeros + l.index) l.text)
