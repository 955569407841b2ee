use Rattle.std.proofs.Common.{◌≡◌, drop}
use Rattle.std.specs.List.{list_all}
use Rattle.redis_combiners.proofs.arrange.all_taken.Given as goal

abbrev pub invariant-loop-bit : goal.invariant-loop-bit
invariant-loop-bit l = list_all (λ bit. bit) (drop l.bit-index l.taken) ≡ list_all (λ bit. bit) l.taken
