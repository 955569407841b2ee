use Rattle.std.proofs.Common.{◌≡◌, ℕ, ◌<◌, map, false}
use Rattle.resp_core.specs.Reply.{bulk_string_of}
use Rattle.resp_core.specs.View.{view}
use Rattle.redis_routing.specs.Command.{argument, is_word}
use Rattle.redis_routing.proofs.routable.ValueRoutable.position.Given as goal

abbrev pub invariant-loop-place : goal.invariant-loop-place
invariant-loop-place l = (k : ℕ) → k < l.place → is_word l.candidate (argument (map bulk_string_of (map view l.items)) k) ≡ false
