use Rattle.std.proofs.Common.{◌+◌}
use Rattle.resp_core.specs.View.{view}
use Rattle.resp_core.specs.Freeing.{steps_in, steps_above}
use Rattle.resp_core.proofs.value.Value.free.Given as goal

abbrev pub decreases-loop-inside : goal.decreases-loop-inside
decreases-loop-inside l = steps_in (view l.self) + steps_above (view l.above)
