use Rattle.std.proofs.Common.{[], take}
use Rattle.redis_bytes.specs.NameLines.{Register}
use Rattle.redis_bytes.proofs.NameLines.{fields_in}
use Rattle.redis_bytes.proofs.names.registry_in.Given as goal

-- the lines so far registered their names
abbrev pub invariant-loop-number : goal.invariant-loop-number
invariant-loop-number l = Register (take l.number (fields_in l.line-items)) [] l.registry
