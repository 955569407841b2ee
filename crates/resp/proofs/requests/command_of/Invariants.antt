use Rattle.std.proofs.Common.{◌≡◌, map, take}
use Rattle.resp.proofs.requests.command_of.Given as goal

-- the first arguments
abbrev pub invariant-loop-arg : goal.invariant-loop-arg
invariant-loop-arg l = l.command ≡ map (λ arg. arg.now) (take l.arg-index l.args)
