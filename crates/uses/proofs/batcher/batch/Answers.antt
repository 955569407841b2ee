use Rattle.std.proofs.Common.{◌≡◌, ◌∷◌, [], ◌++◌, ℕ, List, Result, Ok, Err, IsErrAnd, IfErr, inl, inr, OnOk, map, Some, subst, ap, sym, ◌∙◌}
use Rattle.std.specs.List.{AllZip}
use Rattle.std.proofs.lemmas.Result.{IfErr-weaker, IfOk-weaker}
use Rattle.cluster_map.specs.RangeMap as ranges
use Rattle.cluster_map.specs.RouteNode.{IsNodeOfRoute}
use Rattle.cluster_map.specs.SlotNodes.{SlotNodes}
use Rattle.redis_routing.specs.Command.{Arguments}
use Rattle.redis_cluster.specs.Names.{names_of}
use Rattle.redis_cluster.specs.Registry.{Registrations}
use Rattle.redis_cluster.specs.Driven.{command_routes_by}
use Rattle.redis_cluster.specs.MultiKey.{multi_key, part_by_slot}
use Rattle.redis_cluster.specs.Plan.{Plan}
use Rattle.redis_cluster.specs.Ready.{targets}
use Rattle.uses.specs.Batch.{AreAdded, AreHanded, AreHandedOrNone, Answers, Handed, IsUngathered}
use Rattle.uses.specs.declared.batcher.BatchError.{BatchError}
use Rattle.uses.specs.declared.batcher.BatchError.TheVariants.{NotPlanned, NotAnswered, NotCombined, Memory}
use Rattle.uses.proofs.Handing.{beside_both}
use Rattle.uses.proofs.batcher.batch.Goals as goal

-- the parts of the command's plan were handed over
handed_by : (entries : List (ranges.RangeEntry SlotNodes)) (args : Arguments) (plan : Plan) (read_only : List (List ℕ)) (registered : Registrations) (old new : Handed → Type 0) → read_only ≡ [] → registered ≡ []
    → Some (map (λ route. route.0) plan.split.routes) ≡ command_routes_by (names_of read_only registered) args
    → AllZip (λ route address. IsNodeOfRoute entries route.0 0 address) plan.split.routes plan.nodes
    → AllZip (λ route part. map Some part ≡ part_by_slot registered args route.0.slot) plan.split.routes plan.parts
    → AreAdded old new (targets plan) → AreHanded entries args old new
handed_by entries args plan read_only registered old new none nothing slots nodes parts added = record {
  routes = map (λ route. route.0) plan.split.routes;
  parts = targets plan;
  routes_are = sym (slots ∙ ap (λ (ns : List (List ℕ)). command_routes_by (names_of ns registered) args) none ∙ ap (λ (rs : Registrations). command_routes_by (names_of [] rs) args) nothing);
  added = added;
  each = beside_both (λ route address. IsNodeOfRoute entries route.0 0 address) (λ route part. map Some part ≡ part_by_slot [] args route.0.slot) (λ route. route.0)
      (λ route part. IsNodeOfRoute entries route 0 part.0 × (map Some part.1 ≡ part_by_slot [] args route.slot)) (λ route address part node is. (node, is)) plan.split.routes plan.nodes plan.parts nodes
      (subst (λ (rs : Registrations). AllZip (λ route part. map Some part ≡ part_by_slot rs args route.0.slot) plan.split.routes plan.parts) nothing parts);
}

-- where the answers make no reply, they were handed over too
once : (entries : List (ranges.RangeEntry SlotNodes)) (args : Arguments) (plan : Plan) (answers : Answers) (old new : Handed → Type 0) → AreHanded entries args old new → (error : BatchError) → IsUngathered plan answers error → AreHandedOrNone entries args old new error
once entries args plan answers old new handed (NotPlanned fault) cause = absurd cause
once entries args plan answers old new handed (NotAnswered number why) cause = handed
once entries args plan answers old new handed (NotCombined error) cause = handed
once entries args plan answers old new handed Memory cause = inr handed

-- what holds of the error of a result that is one
err_from : {T E : Type 0} (P Q : E → Type 0) (r : Result T E) → IsErrAnd r P → ((e : E) → P e → Q e) → IfErr r Q
err_from P Q (Ok x) is gives = tt
err_from P Q (Err e) is gives = gives e is

if_ok : {T E A : Type 0} (r : Result T E) → A → OnOk r A
if_ok (Ok x) a = a
if_ok (Err e) a = tt

pub returns-in_err-answers-clause-handed_once : goal.returns-in_err-answers-clause-handed_once
returns-in_err-answers-clause-handed_once g c =
    let entries = c.args.slot_map.now in
    let args : Arguments = map Some c.args.command.now in
    let new = c.in-Ok.ensures in
    let old_handed = g.C.Connections.handed c.args.connections.now in
    let new_handed = g.C.Connections.handed c.send_parts.new.connections in
    err_from _ _ c.from_residual.result c.from_residual.ensures.1
    (λ error is. subst (AreHandedOrNone entries args old_handed new_handed) (sym is)
    (elim c.in_err-answers.ensures.handed_or_none as (λ o. AreHandedOrNone entries args old_handed new_handed Memory) [
      | inl none ↦ inl none
      | inr added ↦ inr (handed_by entries args c.in-Ok.plan _ _ old_handed new_handed c.new-none_only_reads.ensures c.new-none_registered.ensures.empty new.slots new.nodes new.parts added)
    ]))

pub returns-clause-handed : goal.returns-clause-handed
returns-clause-handed g c =
    let new = c.in-Ok.ensures in
    if_ok c.gather.result
    (handed_by c.args.slot_map.now (map Some c.args.command.now) c.in-Ok.plan _ _ (g.C.Connections.handed c.args.connections.now) (g.C.Connections.handed c.send_parts.new.connections) c.new-none_only_reads.ensures c.new-none_registered.ensures.empty new.slots new.nodes new.parts c.in_ok-answers.ensures.handed)

pub returns-clause-handed_once : goal.returns-clause-handed_once
returns-clause-handed_once g c =
    let new = c.in-Ok.ensures in
    let handed = handed_by c.args.slot_map.now (map Some c.args.command.now) c.in-Ok.plan _ _ (g.C.Connections.handed c.args.connections.now) (g.C.Connections.handed c.send_parts.new.connections) c.new-none_only_reads.ensures c.new-none_registered.ensures.empty new.slots new.nodes new.parts c.in_ok-answers.ensures.handed in
    IfErr-weaker c.gather.result _ _
    (λ error cause. once c.args.slot_map.now (map Some c.args.command.now) c.in-Ok.plan _ _ _ handed error cause)
    c.gather.ensures.cause

pub returns-clause-amid : goal.returns-clause-amid
returns-clause-amid g c =
    let new = c.in-Ok.ensures in
    let made = new.command [] c.new-none_registered.ensures.empty in
    IfOk-weaker c.gather.result _ _
    (λ reply gathered. record {
      command = made.0;
      command_is = ap (multi_key []) (sym new.arguments) ∙ made.1.command_is;
      replies = gathered.replies;
      gave = λ before was. subst (λ (given : Answers). g.C.Connections.gave c.send_parts.new.connections (before ++ given ∷ [])) gathered.each (c.in_ok-answers.ensures.gave before was);
      amid = gathered.amid [] made.0 made.1 new.untold;
    })
    c.gather.ensures.gathered
