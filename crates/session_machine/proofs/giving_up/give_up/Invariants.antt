use Rattle.std.proofs.Common.{◌-◌}
use Rattle.session_machine.specs.Ties.{given_up, OrderGoes}
use Rattle.session_machine.proofs.giving_up.give_up.Given as goal

abbrev pub invariant-loop-at : goal.invariant-loop-at
invariant-loop-at l = OrderGoes (given_up l.place (l.at - l.place)) l.initial.order l.order
