use Rattle.std.proofs.Common.{sym, ◌∙◌, arith}
use Rattle.redis_session.proofs.DoneReplies.{none_done, noted_passed, noted_taken_up}
use Rattle.redis_session.proofs.due_machine.first_of_rest.Goals as goal

pub loop-call-init : goal.loop-call-init
loop-call-init c = record { noted = c.requires.noted; empty = c.requires.empty; at = sym c.from-call.ensures }

pub take_up-requires : goal.take_up-requires
take_up-requires c = omega (arith, c.loop-call.invariant.at, c.loop-call-test.true, c.count_begun-call-end.type_inv)

pub returns-in-Some-clause-noted : goal.returns-in-Some-clause-noted
returns-in-Some-clause-noted c = noted_taken_up c.loop-call.due c.take_up.new.self c.args.machine.now c.in-Some.caller c.loop-call.call c.loop-call.invariant.noted c.loop-call.invariant.at c.in-Some.ensures.some c.take_up.ensures.noted c.take_up.ensures.first

pub pass-requires : goal.pass-requires
pass-requires c = omega (arith, c.loop-call.invariant.at, c.loop-call-test.true, c.count_begun-call-end.type_inv)

pub loop-call-preserved : goal.loop-call-preserved
loop-call-preserved c = record {
  noted = noted_passed c.loop-call.due c.pass.new.self c.args.machine.now c.loop-call.call c.loop-call.invariant.noted c.loop-call.invariant.at c.in_default.ensures.none c.pass.ensures.callers c.pass.ensures.from c.pass.ensures.first;
  empty = c.pass.ensures.callers ∙ c.loop-call.invariant.empty;
  at = omega (arith, c.pass.ensures.from, c.loop-call.invariant.at);
}

pub returns-clause-none : goal.returns-clause-none
returns-clause-none c = none_done c.loop-call.due c.args.machine.now c.loop-call.invariant.noted c.loop-call.invariant.empty (omega (arith, c.loop-call.invariant.at, c.loop-call-test.false, c.count_begun-call-end.ensures))
