use Rattle.std.proofs.Common.{◌≡◌, Some, None, Option, ℕ, ap, sym, ◌∙◌}
use Rattle.std.proofs.lemmas.Bool.{false≢true, eqb-true, eq-eqb}
use Rattle.std.proofs.lemmas.Option.{same_Some}
use Rattle.session_machine.proofs.CallerMaps.{last_by}
use Rattle.session_machine.proofs.callers.Callers.is_last.Goals as goal

pub returns-in-Some-clause-yes : goal.returns-in-Some-clause-yes
returns-in-Some-clause-yes c = λ yes. last_by c.args.caller c.args.self.now (Some c.in-Some.entry.now) c.in-Some.ensures.value ∙ ap Some (eqb-true c.in-Some.entry.now.last c.args.call yes)

pub returns-in-Some-clause-no : goal.returns-in-Some-clause-no
returns-in-Some-clause-no c = λ no e.
    let same = same_Some c.in-Some.entry.now.last c.args.call (sym (last_by c.args.caller c.args.self.now (Some c.in-Some.entry.now) c.in-Some.ensures.value) ∙ e) in
    false≢true (sym no ∙ eq-eqb c.in-Some.entry.now.last c.args.call same)

pub returns-in-None-clause-no : goal.returns-in-None-clause-no
returns-in-None-clause-no c = λ no e.
    let none : ◌≡◌ {A = Option ℕ} None (Some c.args.call) = sym (last_by c.args.caller c.args.self.now None c.in-None.ensures.value) ∙ e in
    cc
