use Rattle.std.proofs.Common.{arith, refl}
use Rattle.session_machine.proofs.CallLists.{no_call, with_item}
use Rattle.session_machine.proofs.calls.replace.Goals as goal

pub returns-in-Some : goal.returns-in-Some
returns-in-Some c =
    let at = c.in-Some.ensures.some in
    with_item c.args.call c.args.first c.in-Some.index (λ state. c.args.new) c.args.calls.now.items c.index_mut.result.now c.args.new at.0 at.1 (omega (arith, at.2, c.len.ensures)) c.index_mut.ensures.value refl

pub returns-in_default : goal.returns-in_default
returns-in_default c = no_call c.args.call c.args.first c.len.result (λ state. c.args.new) c.args.calls.now.items (omega (arith, c.len.ensures)) c.in_default.ensures.none
