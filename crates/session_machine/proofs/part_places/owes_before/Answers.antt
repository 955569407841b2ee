use Rattle.std.proofs.Common.{inl, inr, sym, ◌∙◌, arith}
use Rattle.std.proofs.lemmas.Bool.{false≢true, cases_lt, lt-ltb, le-ltb}
use Rattle.session_machine.proofs.part_places.owes_before.Goals as goal

pub returns-in-Some-clause-yes : goal.returns-in-Some-clause-yes
returns-in-Some-clause-yes c = λ yes. elim (cases_lt c.in-Some.next c.args.call) [
  | inl lt ↦ (c.in-Some.next, c.in-Some.ensures.some.is, lt)
  | inr ge ↦ absurd (false≢true (sym (le-ltb c.in-Some.next c.args.call ge) ∙ yes))
]

pub returns-in-Some-clause-no : goal.returns-in-Some-clause-no
returns-in-Some-clause-no c = λ no other is. elim (cases_lt c.in-Some.next c.args.call) [
  | inl lt ↦ absurd (false≢true (sym no ∙ lt-ltb c.in-Some.next c.args.call lt))
  | inr ge ↦ let le = c.in-Some.ensures.some.least other is in omega (arith, ge, le)
]

pub returns-in-None-clause-no : goal.returns-in-None-clause-no
returns-in-None-clause-no c = λ no other is. absurd (false≢true (sym (c.in-None.ensures.none other) ∙ is))
