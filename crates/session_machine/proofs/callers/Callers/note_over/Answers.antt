use Rattle.std.proofs.Common.{◌≡◌, false, refl, sym, ap, ◌∙◌}
use Rattle.std.proofs.lemmas.Bool.{false≢true}
use Rattle.session_machine.specs.Caller.{no_calls}
use Rattle.session_machine.specs.Callers.{owed_of}
use Rattle.session_machine.specs.Ties.{is_owed}
use Rattle.session_machine.specs.declared.caller.Caller.{Caller}
use Rattle.session_machine.proofs.CallerMaps.{owed_by, missing, lent, lent_owed}
use Rattle.session_machine.proofs.callers.Callers.note_over.Goals as goal

pub returns-in-Some-clause-owed : goal.returns-in-Some-clause-owed
returns-in-Some-clause-owed c =
    let was = c.in-Some.entry.now in
    let now : Caller = record was { owed = c.remove.new.self } in
    let w = lent c.args.caller c.args.self.now (c.get_mut.follows.lender now) was now c.in-Some.ensures.value (c.get_mut.follows.holds now) in
    rw (w.was_owed, w.owed) c.remove.ensures

pub returns-in-Some-clause-only : goal.returns-in-Some-clause-only
returns-in-Some-clause-only c =
    let was = c.in-Some.entry.now in
    let now : Caller = record was { owed = c.remove.new.self } in
    lent_owed c.args.caller c.args.self.now (c.get_mut.follows.lender now) was now c.in-Some.ensures.value (c.get_mut.follows.holds now) refl refl

pub returns-in_default-clause-owed : goal.returns-in_default-clause-owed
returns-in_default-clause-owed c =
    let none : is_owed c.args.call (owed_of c.args.caller c.args.self.now) ≡ false = ap (is_owed c.args.call) (owed_by c.args.caller c.args.self.now no_calls (missing c.args.caller c.args.self.now c.in_default.ensures.value)) in
    absurd (false≢true (sym none ∙ c.requires))

pub returns-in_default-clause-only : goal.returns-in_default-clause-only
returns-in_default-clause-only c =
    let none : is_owed c.args.call (owed_of c.args.caller c.args.self.now) ≡ false = ap (is_owed c.args.call) (owed_by c.args.caller c.args.self.now no_calls (missing c.args.caller c.args.self.now c.in_default.ensures.value)) in
    absurd (false≢true (sym none ∙ c.requires))
