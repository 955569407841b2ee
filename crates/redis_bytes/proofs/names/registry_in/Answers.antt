use Rattle.std.proofs.Common.{◌≡◌, List, ℕ, [], Bor, map, get_or, ap, ◌∙◌}
use Rattle.redis_bytes.specs.NameLines.{fields_of}
use Rattle.redis_bytes.proofs.NameLines.{bad_at, fields_at, fields_in, is_line, register_next}
use Rattle.redis_bytes.proofs.names.registry_in.Goals as goal

pub returns-then-not-branch-clause-fault : goal.returns-then-not-branch-clause-fault
returns-then-not-branch-clause-fault c =
    let lines = c.deref-line-items.result.now in
    let fields = map (λ (f : Bor (List ℕ)). f.now) c.deref.result.now in
    let at = fields_at lines c.loop-number.number c.loop-number-test.true _ fields in
    let is : fields ≡ get_or (fields_in lines) c.loop-number.number fields = ap (map (λ (f : Bor (List ℕ)). f.now)) c.deref.ensures.value ∙ c.in_ok-fields.ensures ∙ at in
    bad_at (fields_in lines) c.loop-number.number fields (is_line lines c.loop-number.number c.loop-number-test.true) is c.args.text.now c.loop-number.registry
    (ap (map fields_of) (ap (map (λ (l : Bor (List ℕ)). l.now)) c.deref-line-items.ensures.value ∙ c.in_ok-lines.ensures)) c.loop-number.invariant (c.in_ok-register_line.ensures.bad c.if-not-branch.true)

pub loop-number-preserved : goal.loop-number-preserved
loop-number-preserved c =
    let lines = c.deref-line-items.result.now in
    let fields = map (λ (f : Bor (List ℕ)). f.now) c.deref.result.now in
    let at = fields_at lines c.loop-number.number c.loop-number-test.true _ fields in
    let is : fields ≡ get_or (fields_in lines) c.loop-number.number fields = ap (map (λ (f : Bor (List ℕ)). f.now)) c.deref.ensures.value ∙ c.in_ok-fields.ensures ∙ at in
    register_next (fields_in lines) c.loop-number.number fields (is_line lines c.loop-number.number c.loop-number-test.true) is [] c.loop-number.registry c.register_line.new.registry
    c.loop-number.invariant (c.in_ok-register_line.ensures.good c.if-not-branch.false)
