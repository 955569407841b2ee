use Rattle.std.proofs.Common.{◌≡◌, ◌++◌}
use Rattle.redis_combiners.proofs.KeyPlaces.{heads}
use Rattle.redis_combiners.proofs.places.add_places.Given as goal

abbrev pub invariant-loop-i : goal.invariant-loop-i
invariant-loop-i l = l.all.items ≡ l.initial.all.items ++ heads l.width l.own l.i
