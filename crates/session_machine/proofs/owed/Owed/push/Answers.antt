use Rattle.std.proofs.Common.{◌≡◌, ◌<◌, ◌++◌, ◌∷◌, [], ℕ, true, List, sym, subst}
use Rattle.session_core.specs.Inner.Lane.{Ascends}
use Rattle.session_core.proofs.Ascending.{ascends_pushed}
use Rattle.session_machine.specs.Ties.{Owes, is_owed}
use Rattle.session_machine.proofs.OwedSets.{in_owed, owed_pushed}
use Rattle.session_machine.proofs.owed.Owed.push.Goals as goal

pub invariant_of-self-2 : goal.invariant_of-self-2
invariant_of-self-2 c =
    let later : (call : ℕ) → is_owed call c.self.inside.numbers.items ≡ true → call < c.args.number = subst (λ (owed : List ℕ). (call : ℕ) → is_owed call owed ≡ true → call < c.args.number) (sym c.self.view_is) c.requires in
    subst Ascends (sym c.in_ok-push_back.ensures.items) (ascends_pushed c.args.number c.self.inside.numbers.items c.self.invariant (λ q i. later q (in_owed q c.self.inside.numbers.items i)))

pub returns-clause-ok : goal.returns-clause-ok
returns-clause-ok c =
    subst (λ (new : List ℕ). Owes c.args.self.now new c.args.number true) (sym c.in_ok-push_back.ensures.items)
    (subst (λ (old : List ℕ). Owes old (c.self.inside.numbers.items ++ c.args.number ∷ []) c.args.number true) c.self.view_is (owed_pushed c.args.number c.self.inside.numbers.items))
