use Rattle.std.proofs.Common.{arith}
use Rattle.session_machine.specs.Calls.{given_up}
use Rattle.session_machine.proofs.CallLists.{no_call, with_item}
use Rattle.session_machine.proofs.calls.give_up.Goals as goal

pub returns-in-Some : goal.returns-in-Some
returns-in-Some c =
    let at = c.in-Some.ensures.some in
    with_item c.args.call c.args.first c.in-Some.index given_up c.args.calls.now.items c.index_mut.result.now c.give_up.new.self at.0 at.1 (omega (arith, at.2, c.len.ensures)) c.index_mut.ensures.value c.give_up.ensures

pub returns-in_default : goal.returns-in_default
returns-in_default c = no_call c.args.call c.args.first c.len.result given_up c.args.calls.now.items (omega (arith, c.len.ensures)) c.in_default.ensures.none
