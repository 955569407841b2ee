use Rattle.session_machine.proofs.GivenUp.{one_given_up, none_given_up}
use Rattle.session_machine.proofs.giving_up.give_up_one.Goals as goal

pub returns-then-is_waiting : goal.returns-then-is_waiting
returns-then-is_waiting c = one_given_up c.args.place c.args.order.now c.note_unsent.new.self (c.is_waiting.ensures.waits c.if-is_waiting.true) c.note_unsent.ensures

pub returns-else-is_waiting : goal.returns-else-is_waiting
returns-else-is_waiting c = none_given_up c.args.place c.args.order.now (c.is_waiting.ensures.not c.if-is_waiting.false)
