use Rattle.std.proofs.Common.{◌≡◌, take}
use Rattle.redis_routing.specs.Inner.SlotPages.{ArePagesOf}
use Rattle.redis_routing.specs.Groups.{lists_of_tuples}
use Rattle.redis_routing.specs.PresentArguments.{present_arguments_after}
use Rattle.redis_routing.specs.RoutingInfo.{route_lists}
use Rattle.redis_routing.specs.Split.{slots_of}
use Rattle.redis_routing.specs.Tuples.{tuples_in}
use Rattle.redis_routing.proofs.splitting.group_by_slot.Given as goal

abbrev pub invariant-loop-number : goal.invariant-loop-number
invariant-loop-number g l = record {
  lists : route_lists l.lists.items ≡ lists_of_tuples l.fn.nodes (take l.number (tuples_in l.fn.pattern (present_arguments_after l.fn.words (g.R.Routable.args l.fn.command))));
  slots : ArePagesOf l.pages (slots_of (route_lists l.lists.items));
}
