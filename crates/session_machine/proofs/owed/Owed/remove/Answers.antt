use Rattle.std.proofs.Common.{ℕ, false, List, sym, subst}
use Rattle.session_core.specs.Inner.Lane.{Ascends, without}
use Rattle.session_core.proofs.Ascending.{ascends_without}
use Rattle.session_machine.specs.Ties.{Owes}
use Rattle.session_machine.proofs.OwedSets.{owed_without}
use Rattle.session_machine.proofs.owed.Owed.remove.Goals as goal

pub invariant_of-self : goal.invariant_of-self
invariant_of-self c = subst Ascends (sym c.take_place.ensures.items) (ascends_without c.args.number c.self.inside.numbers.items c.self.invariant)

pub returns : goal.returns
returns c =
    subst (λ (new : List ℕ). Owes c.args.self.now new c.args.number false) (sym c.take_place.ensures.items)
    (subst (λ (old : List ℕ). Owes old (without c.args.number c.self.inside.numbers.items) c.args.number false) c.self.view_is (owed_without c.args.number c.self.inside.numbers.items))
