use Rattle.std.proofs.Common.{◌≡◌, ◌+◌, ◌-◌, ◌^◌, ◌<◌, ◌≤◌, length, drop}
use Rattle.redis_routing.specs.PresentArguments.{arguments_before_gap, present_arguments_after}
use Rattle.redis_routing.proofs.splitting.present_len.Given as goal

abbrev pub invariant-loop-count : goal.invariant-loop-count
invariant-loop-count g l = record {
  same : l.count + length (arguments_before_gap (drop (l.count + l.words) (g.R.Routable.args l.command))) ≡ length (present_arguments_after l.words (g.R.Routable.args l.command));
  within : l.count ≤ length (g.R.Routable.args l.command);
  small : l.count < 2 ^ 63;
}

abbrev pub decreases-loop-count : goal.decreases-loop-count
decreases-loop-count g l = length (g.R.Routable.args l.command) - l.count
