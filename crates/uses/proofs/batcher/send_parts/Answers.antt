use Rattle.std.proofs.Common.{◌≡◌, ◌≤◌, ◌++◌, ◌∷◌, [], ℕ, List, Result, Ok, Err, inr, OnOk, OnErr, subst, sym, ap, ◌∙◌, arith, length, map, take, take_all}
use Rattle.std.specs.Prelude.{None, Some, option_map, slice_get}
use Rattle.std.proofs.lemmas.List.{map_push}
use Rattle.redis_cluster.specs.Plan.{Plan}
use Rattle.redis_cluster.specs.Ready.{Target, targets}
use Rattle.uses.proofs.Handing.{take_next, take_past, zip_within}
use Rattle.uses.proofs.batcher.send_parts.Goals as goal
use Rattle.uses.proofs.batcher.send_parts.Goals.{in-Some+in_ok-push, in_default}

-- what holds whatever a result is
if_ok : {T E A : Type 0} (r : Result T E) → A → OnOk r A
if_ok (Ok x) a = a
if_ok (Err e) a = tt

if_err : {T E A : Type 0} (r : Result T E) → A → OnErr r A
if_err (Ok x) a = tt
if_err (Err e) a = a

-- what was handed over are the parts of the plan
listed : (plan : Plan) (number : ℕ) (items : List Target) → length plan.nodes ≡ length plan.split.routes → length plan.split.routes ≤ number → items ≡ take number (targets plan) → items ≡ targets plan
listed plan number items long past is =
    let many = zip_within plan.nodes plan.parts in
    is ∙ take_all number (targets plan) (omega (arith, many, long, past))

pub returns-clause-handed : goal.returns-clause-handed
returns-clause-handed g c =
    let plan = c.args.plan.now in
    let past : length plan.split.routes ≤ c.loop-number.number = omega (arith, c.loop-number-test.false, c.len-number-end.ensures.len) in
    if_ok c.exchange.result (λ before was. subst (λ (sent : List Target). g.C.Connections.handed c.exchange.new.self (before ++ sent ∷ []))
    (ap (map _) c.deref.ensures.value ∙ listed plan c.loop-number.number _ c.len.ensures.plan.nodes past c.loop-number.invariant) (c.exchange.ensures.handed before was))

pub returns-clause-handed_or_none : goal.returns-clause-handed_or_none
returns-clause-handed_or_none g c =
    let plan = c.args.plan.now in
    let past : length plan.split.routes ≤ c.loop-number.number = omega (arith, c.loop-number-test.false, c.len-number-end.ensures.len) in
    if_err c.exchange.result (inr (λ before was. subst (λ (sent : List Target). g.C.Connections.handed c.exchange.new.self (before ++ sent ∷ []))
    (ap (map _) c.deref.ensures.value ∙ listed plan c.loop-number.number _ c.len.ensures.plan.nodes past c.loop-number.invariant) (c.exchange.ensures.handed before was)))

pub loop-number-preserved : goal.loop-number-preserved
loop-number-preserved g c =
    let plan = c.args.plan.now in
    let number = c.loop-number.number in
    elim c.match-target_of.branch [
      | in-Some+in_ok-push w ↦
          let there : slice_get (targets plan) number ≡ Some (w.in-Some.target.0.now, w.in-Some.target.1.now) = sym c.target_of.ensures ∙ ap (option_map _) w.in-Some.is in
          rw w.parts-is (ap (map _) w.in_ok-push.ensures.items
          ∙ map_push _ c.loop-number.parts.items w.in-Some.target
          ∙ ap (λ front. front ++ (w.in-Some.target.0.now, w.in-Some.target.1.now) ∷ []) c.loop-number.invariant
          ∙ sym (take_next (targets plan) number (w.in-Some.target.0.now, w.in-Some.target.1.now) there))
      | in_default w ↦
          let none : slice_get (targets plan) number ≡ None = sym c.target_of.ensures ∙ ap (option_map _) w.in_default.is in
          rw w.parts-is (c.loop-number.invariant ∙ sym (take_past (targets plan) number none))
    ]
