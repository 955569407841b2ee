use Rattle.std.proofs.Common.{◌≡◌, ◌<◌, ℕ, Some, map, false}
use Rattle.redis_routing.specs.Command.{argument, is_word}
use Rattle.redis_bytes.proofs.requests.RequestRoutable.position.Given as goal

abbrev pub invariant-loop-place : goal.invariant-loop-place
invariant-loop-place l = (k : ℕ) → k < l.place → is_word l.candidate (argument (map Some l.self) k) ≡ false
