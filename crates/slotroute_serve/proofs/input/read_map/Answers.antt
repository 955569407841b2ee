use Rattle.std.proofs.Common.{arith, map, ap, ◌∙◌, length, ◌≡◌, ◌<◌}
use Rattle.std.proofs.lemmas.Bool.Decides.{nat_tests}
use Rattle.redis_bytes.specs.NameLines.{fields_of}
use Rattle.slotroute_serve.specs.MapLines.{made_in}
use Rattle.slotroute_serve.proofs.Reading.{HasLine, at_end, next_at_end, left_at_end, at_blank, next_at_blank, left_at_blank, at_bad, left_at_bad, left_before_line, at_good, no_memory_after_line, unread_line, none_borrowed, some_borrowed}
use Rattle.slotroute_serve.proofs.input.read_map.Goals as goal

pub returns-then-not-branch-clause-map : goal.returns-then-not-branch-clause-map
returns-then-not-branch-clause-map g c =
    at_end _ (g.S.Source.remaining c.loop-number.source) (made_in c.loop-number.made) c.loop-number.number c.loop-number.invariant (rw c.if-not-branch.true at c.in_ok-next_line.ensures.there)

pub returns-then-not-branch-clause-next : goal.returns-then-not-branch-clause-next
returns-then-not-branch-clause-next g c =
    next_at_end _ (g.S.Source.remaining c.loop-number.source) (made_in c.loop-number.made) c.loop-number.number c.loop-number.invariant (rw c.if-not-branch.true at c.in_ok-next_line.ensures.there)

pub returns-then-not-branch-clause-rest : goal.returns-then-not-branch-clause-rest
returns-then-not-branch-clause-rest g c =
    left_at_end _ (g.S.Source.remaining c.loop-number.source) _ (made_in c.loop-number.made) c.loop-number.number c.loop-number.invariant (rw c.if-not-branch.true at c.in_ok-next_line.ensures.there) c.in_ok-next_line.ensures.rest

pub returns-then-is_empty-clause-map : goal.returns-then-is_empty-clause-map
returns-then-is_empty-clause-map g c =
    let none : length c.in_ok-fields.fields.items ≡ 0 = grind (arith, nat_tests, c.is_empty.ensures, c.if-is_empty.true) in
    let line : HasLine (g.S.Source.remaining c.loop-number.source) c.next_line.new.line.items = record { there = rw c.if-not-branch.false at c.in_ok-next_line.ensures.there; text = c.in_ok-next_line.ensures.text } in
    at_blank _ (g.S.Source.remaining c.loop-number.source) (made_in c.loop-number.made) c.loop-number.number c.next_line.new.line.items (map (λ x. x.now) c.in_ok-fields.fields.items) c.loop-number.invariant line
    (c.in_ok-fields.ensures ∙ ap fields_of c.deref.ensures.value) (none_borrowed c.in_ok-fields.fields.items none)

pub returns-then-is_empty-clause-next : goal.returns-then-is_empty-clause-next
returns-then-is_empty-clause-next g c =
    let none : length c.in_ok-fields.fields.items ≡ 0 = grind (arith, nat_tests, c.is_empty.ensures, c.if-is_empty.true) in
    let line : HasLine (g.S.Source.remaining c.loop-number.source) c.next_line.new.line.items = record { there = rw c.if-not-branch.false at c.in_ok-next_line.ensures.there; text = c.in_ok-next_line.ensures.text } in
    next_at_blank _ (g.S.Source.remaining c.loop-number.source) (made_in c.loop-number.made) c.loop-number.number c.next_line.new.line.items (map (λ x. x.now) c.in_ok-fields.fields.items) c.loop-number.invariant line
    (c.in_ok-fields.ensures ∙ ap fields_of c.deref.ensures.value) (none_borrowed c.in_ok-fields.fields.items none)

pub returns-then-is_empty-clause-rest : goal.returns-then-is_empty-clause-rest
returns-then-is_empty-clause-rest g c =
    let none : length c.in_ok-fields.fields.items ≡ 0 = grind (arith, nat_tests, c.is_empty.ensures, c.if-is_empty.true) in
    let line : HasLine (g.S.Source.remaining c.loop-number.source) c.next_line.new.line.items = record { there = rw c.if-not-branch.false at c.in_ok-next_line.ensures.there; text = c.in_ok-next_line.ensures.text } in
    left_at_blank _ (g.S.Source.remaining c.loop-number.source) _ (made_in c.loop-number.made) c.loop-number.number c.next_line.new.line.items (map (λ x. x.now) c.in_ok-fields.fields.items) c.loop-number.invariant line
    (c.in_ok-fields.ensures ∙ ap fields_of c.deref.ensures.value) (none_borrowed c.in_ok-fields.fields.items none) c.in_ok-next_line.ensures.rest

pub returns-in_err-next_line-clause-rest : goal.returns-in_err-next_line-clause-rest
returns-in_err-next_line-clause-rest g c =
    unread_line _ _ (g.S.Source.remaining c.loop-number.source) _ (made_in c.loop-number.made) c.loop-number.number c.in_err-next_line.field-0.0 c.from_residual.ensures.1 c.loop-number.invariant c.in_err-next_line.ensures.stops

pub returns-in_err-fields-clause-rest : goal.returns-in_err-fields-clause-rest
returns-in_err-fields-clause-rest g c =
    no_memory_after_line _ _ (g.S.Source.remaining c.loop-number.source) _ (made_in c.loop-number.made) c.loop-number.number c.from_residual-in_err-fields.ensures.1 c.loop-number.invariant c.in_ok-next_line.ensures.rest

pub returns-in_err-add_line-clause-rest : goal.returns-in_err-add_line-clause-rest
returns-in_err-add_line-clause-rest g c =
    no_memory_after_line _ _ (g.S.Source.remaining c.loop-number.source) _ (made_in c.loop-number.made) c.loop-number.number c.from_residual-in_err-add_line.ensures.1 c.loop-number.invariant c.in_ok-next_line.ensures.rest

pub returns-then-not-branch-2-clause-map : goal.returns-then-not-branch-2-clause-map
returns-then-not-branch-2-clause-map g c =
    let some : 0 < length c.in_ok-fields.fields.items = grind (arith, nat_tests, c.is_empty.ensures, c.if-is_empty.false) in
    let line : HasLine (g.S.Source.remaining c.loop-number.source) c.next_line.new.line.items = record { there = rw c.if-not-branch.false at c.in_ok-next_line.ensures.there; text = c.in_ok-next_line.ensures.text } in
    at_bad _ (g.S.Source.remaining c.loop-number.source) (made_in c.loop-number.made) c.loop-number.number c.next_line.new.line.items (map (λ x. x.now) c.in_ok-fields.fields.items) c.loop-number.invariant line
    (c.in_ok-fields.ensures ∙ ap fields_of c.deref.ensures.value) (some_borrowed c.in_ok-fields.fields.items some)
    (rw c.deref-in-loop-number.ensures.value at (c.in_ok-add_line.ensures.bad c.if-not-branch-2.true))

pub returns-then-not-branch-2-clause-rest : goal.returns-then-not-branch-2-clause-rest
returns-then-not-branch-2-clause-rest g c =
    left_at_bad _ (g.S.Source.remaining c.loop-number.source) _ (made_in c.loop-number.made) c.loop-number.number c.loop-number.invariant c.in_ok-next_line.ensures.rest

pub loop-number-preserved : goal.loop-number-preserved
loop-number-preserved g c =
    let some : 0 < length c.in_ok-fields.fields.items = grind (arith, nat_tests, c.is_empty.ensures, c.if-is_empty.false) in
    let line : HasLine (g.S.Source.remaining c.loop-number.source) c.next_line.new.line.items = record { there = rw c.if-not-branch.false at c.in_ok-next_line.ensures.there; text = c.in_ok-next_line.ensures.text } in
    at_good _ (g.S.Source.remaining c.loop-number.source) _ (made_in c.loop-number.made) (made_in c.add_line.new.made) c.loop-number.number c.next_line.new.line.items (map (λ x. x.now) c.in_ok-fields.fields.items) c.loop-number.invariant line
    (c.in_ok-fields.ensures ∙ ap fields_of c.deref.ensures.value) (some_borrowed c.in_ok-fields.fields.items some)
    (rw c.deref-in-loop-number.ensures.value at (c.in_ok-add_line.ensures.good c.if-not-branch-2.false)) c.in_ok-next_line.ensures.rest

pub returns-clause-rest : goal.returns-clause-rest
returns-clause-rest g c = left_before_line _ (g.S.Source.remaining c.loop-number.source) (made_in c.loop-number.made) c.loop-number.number c.loop-number.invariant
