use Rattle.std.proofs.Common.{◌≡◌, ℕ, ◌<◌, map, false, Some}
use Rattle.redis_routing.specs.Command.{argument, is_word}
use Rattle.redis_routing.proofs.routable.CmdRoutable.position.Given as goal

abbrev pub invariant-loop-place : goal.invariant-loop-place
invariant-loop-place l = (k : ℕ) → k < l.place → is_word l.candidate (argument (map Some l.self) k) ≡ false
