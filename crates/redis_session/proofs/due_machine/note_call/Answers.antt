use Rattle.redis_session.proofs.DoneReplies.{noted_again, noted_alone}
use Rattle.redis_session.proofs.due_machine.note_call.Goals as goal

pub returns : goal.returns
returns c = noted_again c.args.call c.caller.result c.args.due.now c.note.new.self c.args.machine.now c.in-Some.state.now c.requires c.in-Some.ensures.some c.caller.ensures c.note.ensures.own c.note.ensures.others c.note.ensures.first

pub returns-in_default : goal.returns-in_default
returns-in_default c = noted_alone c.args.call c.args.due.now c.args.machine.now c.requires c.in_default.ensures.none
