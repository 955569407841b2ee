use Rattle.std.proofs.Common.{◌≡◌, []}
use Rattle.redis_session.specs.Due.{AreNoted}
use Rattle.redis_session.proofs.due_machine.first_of_rest.Given as goal

abbrev pub invariant-loop-call : goal.invariant-loop-call
invariant-loop-call l = record {
  noted : AreNoted l.due l.machine;
  empty : l.due.callers.items ≡ [];
  at : l.due.from ≡ l.call;
}
