use Rattle.std.proofs.Common.{sym, subst}
use Rattle.session_core.specs.Order.{Order, IsWaiting}
use Rattle.session_machine.specs.Callers.{order_of}
use Rattle.session_machine.proofs.Ties.Goes.{waits_again}
use Rattle.session_machine.proofs.CallerMaps.{only_twice}
use Rattle.session_machine.proofs.part_places.note_never.Goals as goal

pub note_unsent-requires : goal.note_unsent-requires
note_unsent-requires c =
    subst (λ (o : Order). IsWaiting c.args.place o) (sym c.note_refused.ensures.order) (waits_again c.args.place (order_of c.args.caller c.args.callers.now) c.requires)

pub returns-clause-only : goal.returns-clause-only
returns-clause-only c = only_twice c.args.caller c.args.callers.now c.note_refused.new.self c.note_unsent.new.self c.note_refused.ensures.only c.note_unsent.ensures.only
