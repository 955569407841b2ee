use Rattle.std.proofs.Common.{drop, sym, subst}
use Rattle.session_core.specs.Inner.Lane.{Ascends}
use Rattle.session_core.proofs.Ascending.{head_read}
use Rattle.session_machine.specs.Ties.{IsFirstOwed}
use Rattle.session_machine.proofs.OwedSets.{first_owed}
use Rattle.session_machine.proofs.owed.Owed.first.Goals as goal

pub returns-in-Some-clause-some : goal.returns-in-Some-clause-some
returns-in-Some-clause-some c =
    let owed = c.self.inside.numbers.items in
    let head = head_read owed c.in-Some.call.now c.in-Some.ensures.item.3.0 c.in-Some.ensures.lookup in
    subst (IsFirstOwed c.in-Some.call.now) c.self.view_is
    (subst (IsFirstOwed c.in-Some.call.now) (sym head) (first_owed c.in-Some.call.now (drop 1 owed) (subst Ascends head c.self.invariant)))
