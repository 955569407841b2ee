use Rattle.std.proofs.Common.{[], inl, inr, refl, sym, subst}
use Rattle.std.specs.Prelude.{IsSome}
use Rattle.std.proofs.lemmas.List.{append-nil}
use Rattle.std.proofs.lemmas.List.Elements.{All-nil}
use Rattle.std.proofs.lemmas.Result.{IfErr-weaker, IfOk-weaker}
use Rattle.resp_core.specs.View.{view}
use Rattle.redis_routing.specs.Command.{Arguments}
use Rattle.redis_routing.specs.Names.{names_of}
use Rattle.redis_cluster.specs.Amid.{IsServedAmid}
use Rattle.redis_cluster.specs.Driven.{request}
use Rattle.redis_cluster.specs.Faults.{IsCauseBeforeSending}
use Rattle.redis_cluster.specs.Joined.{ReturnsJoined}
use Rattle.redis_cluster.specs.Retry.{RetryState}
use Rattle.redis_cluster.specs.declared.fault.DriveFault.{DriveFault}
use Rattle.redis_cluster.proofs.Amid.{parts_act_by_slot}
use Rattle.redis_cluster.proofs.Ended.{all_three, ended_late, traced_so}
use Rattle.redis_cluster.proofs.Gaps.{same_command}
use Rattle.redis_cluster.proofs.Headline.{begins, headline_fault, carried_fault}
use Rattle.redis_cluster.proofs.TriedOnce.{delivered_once, plan_tried, plan_driven, plan_cut}
use Rattle.redis_cluster.proofs.driver.drive.Goals as goal

pub drive_tries-requires : goal.drive_tries-requires
drive_tries-requires g c = record {
  command = (c.in-Ok.ensures.ready.0, c.in-Ok.ensures.ready.1.plan_is);
  untold = c.in-Ok.ensures.untold;
  order = c.in-Ok.ensures.order;
  named = All-nil (λ (retry : RetryState). IsSome retry.target);
}

pub returns-in-Ok-clause-delivered : goal.returns-in-Ok-clause-delivered
returns-in-Ok-clause-delivered g c =
    let asked = request (g.R.Routable.args c.args.command.now) (names_of c.args.read_only.now (g.N.Nodes.registered c.args.nodes.now)) c.args.slot_map.now c.args.order.now in
    let nodes = g.N.Nodes in
    let old = nodes.state c.args.nodes.now in
    let new = nodes.state c.drive_tries.new.nodes in
    let plan = c.in-Ok.plan in
    let made = c.in-Ok.ensures in
    traced_so _ c.drive_tries.result
    (λ value tried. delivered_once _ asked old.trace new.trace (plan_tried _ nodes.step asked c.args.order.now (nodes.registered c.args.nodes.now) old new plan made.ready.0 made.ready.1 refl refl made.order tried))
    c.drive_tries.ensures.trace

pub returns-in-Ok-clause-driven : goal.returns-in-Ok-clause-driven
returns-in-Ok-clause-driven g c =
    let asked = request (g.R.Routable.args c.args.command.now) (names_of c.args.read_only.now (g.N.Nodes.registered c.args.nodes.now)) c.args.slot_map.now c.args.order.now in
    let nodes = g.N.Nodes in
    let old = nodes.state c.args.nodes.now in
    let new = nodes.state c.drive_tries.new.nodes in
    let plan = c.in-Ok.plan in
    let made = c.in-Ok.ensures in
    all_three _ _ c.drive_tries.result
    (λ value tried keyspace reply now. plan_driven _ nodes.step asked c.args.order.now (nodes.registered c.args.nodes.now) old new plan made.ready.0 made.ready.1 refl refl made.order _ tried (keyspace made.ready.0 made.ready.1.plan_is now) (reply made.ready.0 made.ready.1.plan_is now))
    c.drive_tries.ensures.trace c.drive_tries.ensures.keyspace c.drive_tries.ensures.reply

pub returns-in-Ok-clause-cut : goal.returns-in-Ok-clause-cut
returns-in-Ok-clause-cut g c =
    let asked = request (g.R.Routable.args c.args.command.now) (names_of c.args.read_only.now (g.N.Nodes.registered c.args.nodes.now)) c.args.slot_map.now c.args.order.now in
    let nodes = g.N.Nodes in
    let old = nodes.state c.args.nodes.now in
    let new = nodes.state c.drive_tries.new.nodes in
    let plan = c.in-Ok.plan in
    let made = c.in-Ok.ensures in
    IfErr-weaker c.drive_tries.result _ _
    (λ e ended. inr (plan_cut _ nodes.step asked c.args.order.now (nodes.registered c.args.nodes.now) old new plan made.ready.0 made.ready.1 refl refl made.order (nodes.kept c.drive_tries.new.nodes) (nodes.may_refuse c.args.nodes.now) e.fault e.answered ended).0)
    c.drive_tries.ensures.stopped

pub returns-in-Ok-clause-fault : goal.returns-in-Ok-clause-fault
returns-in-Ok-clause-fault g c =
    let asked = request (g.R.Routable.args c.args.command.now) (names_of c.args.read_only.now (g.N.Nodes.registered c.args.nodes.now)) c.args.slot_map.now c.args.order.now in
    let nodes = g.N.Nodes in
    let old = nodes.state c.args.nodes.now in
    let new = nodes.state c.drive_tries.new.nodes in
    let plan = c.in-Ok.plan in
    let made = c.in-Ok.ensures in
    IfErr-weaker c.drive_tries.result _ _
    (λ e ended now.
    let cut = plan_cut _ nodes.step asked c.args.order.now (nodes.registered c.args.nodes.now) old new plan made.ready.0 made.ready.1 refl refl made.order (nodes.kept c.drive_tries.new.nodes) (nodes.may_refuse c.args.nodes.now) e.fault e.answered ended in
    inr (cut.0, (cut.1 now).0, (cut.1 now).1))
    c.drive_tries.ensures.stopped

pub returns-in-Ok-clause-untouched : goal.returns-in-Ok-clause-untouched
returns-in-Ok-clause-untouched g c =
    IfErr-weaker c.drive_tries.result _ _
    (λ e ended before. absurd (ended_late _ _ _ _ _ _ _ _ _ _ _ _ e.fault e.answered ended before))
    c.drive_tries.ensures.stopped

pub returns-in-Ok-clause-joined : goal.returns-in-Ok-clause-joined
returns-in-Ok-clause-joined g c =
    let nodes = g.N.Nodes in
    subst (λ (args : Arguments). ReturnsJoined (nodes.registered c.args.nodes.now) args c.args.order.now (nodes.gave c.args.nodes.now) (nodes.gave c.drive_tries.new.nodes) c.drive_tries.result) c.in-Ok.ensures.arguments
    c.drive_tries.ensures.joined

pub returns-in-Ok-clause-amid : goal.returns-in-Ok-clause-amid
returns-in-Ok-clause-amid g c =
    let nodes = g.N.Nodes in
    IfOk-weaker c.drive_tries.result _ _
    (λ value. subst (λ (args : Arguments). IsServedAmid nodes.Cell (nodes.registered c.args.nodes.now) args c.args.order.now (nodes.gave c.args.nodes.now) (nodes.gave c.drive_tries.new.nodes) (view value)) c.in-Ok.ensures.arguments)
    c.drive_tries.ensures.amid

pub returns-in-Ok-clause-headline : goal.returns-in-Ok-clause-headline
returns-in-Ok-clause-headline g c =
    let asked = request (g.R.Routable.args c.args.command.now) (names_of c.args.read_only.now (g.N.Nodes.registered c.args.nodes.now)) c.args.slot_map.now c.args.order.now in
    let nodes = g.N.Nodes in
    λ headline. IfErr-weaker c.drive_tries.result _ _
    (λ e fault now. headline_fault _ nodes.step asked (nodes.state c.args.nodes.now) (nodes.state c.drive_tries.new.nodes) (nodes.may_refuse c.args.nodes.now) headline e.fault e.answered (fault now))
    (returns-in-Ok-clause-fault g c)

pub returns-in-Ok-clause-carried : goal.returns-in-Ok-clause-carried
returns-in-Ok-clause-carried g c =
    let asked = request (g.R.Routable.args c.args.command.now) (names_of c.args.read_only.now (g.N.Nodes.registered c.args.nodes.now)) c.args.slot_map.now c.args.order.now in
    let nodes = g.N.Nodes in
    λ routes command can all. IfErr-weaker c.drive_tries.result _ _
    (λ e fault now. carried_fault _ nodes.step asked (nodes.state c.args.nodes.now) (nodes.state c.drive_tries.new.nodes) (nodes.may_refuse c.args.nodes.now) routes command can all e.fault e.answered (fault now))
    (returns-in-Ok-clause-fault g c)

pub returns-in-Ok-clause-gaps : goal.returns-in-Ok-clause-gaps
returns-in-Ok-clause-gaps g c = same_command (g.R.Routable.args c.args.command.now)

pub returns-in-Ok-clause-parts : goal.returns-in-Ok-clause-parts
returns-in-Ok-clause-parts g c = parts_act_by_slot g.N.Nodes.Cell (g.N.Nodes.registered c.args.nodes.now) (g.R.Routable.args c.args.command.now)

pub returns-in-Err-clause-fault : goal.returns-in-Err-clause-fault
returns-in-Err-clause-fault g c = λ now. inl (c.in-Err.ensures.early, refl, refl)

pub returns-in-Err-clause-cut : goal.returns-in-Err-clause-cut
returns-in-Err-clause-cut g c = inl (c.in-Err.ensures.early, refl, refl)

pub returns-in-Err-clause-headline : goal.returns-in-Err-clause-headline
returns-in-Err-clause-headline g c =
    let asked = request (g.R.Routable.args c.args.command.now) (names_of c.args.read_only.now (g.N.Nodes.registered c.args.nodes.now)) c.args.slot_map.now c.args.order.now in
    λ headline now. begins asked headline.routes headline.command headline.drivable c.in-Err.fault c.in-Err.ensures.early

pub returns-in-Err-clause-carried : goal.returns-in-Err-clause-carried
returns-in-Err-clause-carried g c =
    let asked = request (g.R.Routable.args c.args.command.now) (names_of c.args.read_only.now (g.N.Nodes.registered c.args.nodes.now)) c.args.slot_map.now c.args.order.now in
    λ routes command can all now. begins asked routes command can c.in-Err.fault c.in-Err.ensures.early

pub returns-in-Err-clause-joined : goal.returns-in-Err-clause-joined
returns-in-Err-clause-joined g c = λ error is.
    let asked = request (g.R.Routable.args c.args.command.now) (names_of c.args.read_only.now (g.N.Nodes.registered c.args.nodes.now)) c.args.slot_map.now c.args.order.now in
    absurd (subst (λ (f : DriveFault). IsCauseBeforeSending asked f) is c.in-Err.ensures.early)

pub returns-in-Err-clause-given : goal.returns-in-Err-clause-given
returns-in-Err-clause-given g c =
    record { replies = []; each = refl; gave = λ before was. subst (g.N.Nodes.gave c.args.nodes.now) (sym (append-nil before)) was }

pub returns-in-Err-clause-gaps : goal.returns-in-Err-clause-gaps
returns-in-Err-clause-gaps g c = same_command (g.R.Routable.args c.args.command.now)

pub returns-in-Err-clause-parts : goal.returns-in-Err-clause-parts
returns-in-Err-clause-parts g c = parts_act_by_slot g.N.Nodes.Cell (g.N.Nodes.registered c.args.nodes.now) (g.R.Routable.args c.args.command.now)
