use Rattle.std.proofs.Common.{◌∙◌, refl, ap, Some, map, subst, arith}
use Rattle.std.proofs.lemmas.Grind.{common_steps}
use Rattle.memory_nodes.specs.Nodes.{registered_in, keyspace_in, trace_in, mark_in, MayRefuse}
use Rattle.redis_cluster.specs.Driven.{Request, request}
use Rattle.redis_cluster.specs.State.{state}
use Rattle.redis_cluster.specs.MultiKey.{MultiKey}
use Rattle.redis_cluster.specs.Names.{names_of}
use Rattle.redis_cluster.specs.Ready.{IsPlanFor, IsPlanNode}
use Rattle.redis_cluster.specs.Registry.{Registrations}
use Rattle.redis_cluster.proofs.CommandParts.{covered_routes}
use Rattle.slotroute_serve.specs.Direction.{send_order}
use Rattle.slotroute_serve.proofs.RunningCommands.{driven_by, plan_order, order_with, why_not_run, good_order, unsent}
use Rattle.slotroute_serve.proofs.command.drive_command.Goals as goal

pub command_fault-requires : goal.command_fault-requires
command_fault-requires g c =
    let names = c.args.read_only.now in
    let registered = registered_in c.args.nodes.now in
    let words = c.args.command.now in
    let entries = c.args.slot_map.now in
    let order = c.deref.result.now in
    let plan = c.in_ok-plan.plan in
    let asked : Registrations → Request = λ known. request (map Some words) (names_of names known) entries order in
    let ready = subst (λ known. (command : MultiKey) × IsPlanFor (asked known) plan command) c.registry.ensures (c.in_ok-plan.ensures.ready order) in
    let is_order = plan_order c.args.direction.now (names_of names registered) words order plan.split.routes (covered_routes (asked registered) (map (λ t. t.0) plan.split.routes) ready.0 ready.1.is_covered) (c.deref.ensures.value ∙ c.in_ok-order.ensures ∙ ap (send_order c.args.direction.now) c.len.ensures.len) in
    let old = state (keyspace_in c.args.nodes.now) (trace_in c.args.nodes.now) (mark_in c.args.nodes.now) in
    let new = state (keyspace_in c.drive_plan.new.nodes) (trace_in c.drive_plan.new.nodes) (mark_in c.drive_plan.new.nodes) in
    let fault = c.in-Err.error.fault in
    let answered = c.in-Err.error.answered in
    let is_fault = c.in-Err.ensures.fault (asked registered) ready.0 ready.1 refl refl tt in
    good_order (IsPlanNode plan) names registered words entries order old new (MayRefuse c.args.nodes.now) c.args.direction.now fault answered is_order is_fault

pub returns-in-Ok-clause-driven : goal.returns-in-Ok-clause-driven
returns-in-Ok-clause-driven g c =
    let names = c.args.read_only.now in
    let registered = registered_in c.args.nodes.now in
    let words = c.args.command.now in
    let entries = c.args.slot_map.now in
    let order = c.deref.result.now in
    let plan = c.in_ok-plan.plan in
    let asked : Registrations → Request = λ known. request (map Some words) (names_of names known) entries order in
    let ready = subst (λ known. (command : MultiKey) × IsPlanFor (asked known) plan command) c.registry.ensures (c.in_ok-plan.ensures.ready order) in
    let is_order = plan_order c.args.direction.now (names_of names registered) words order plan.split.routes (covered_routes (asked registered) (map (λ t. t.0) plan.split.routes) ready.0 ready.1.is_covered) (c.deref.ensures.value ∙ c.in_ok-order.ensures ∙ ap (send_order c.args.direction.now) c.len.ensures.len) in
    let old = state (keyspace_in c.args.nodes.now) (trace_in c.args.nodes.now) (mark_in c.args.nodes.now) in
    let new = state (keyspace_in c.drive_plan.new.nodes) (trace_in c.drive_plan.new.nodes) (mark_in c.drive_plan.new.nodes) in (
      order,
      order_with c.args.direction.now names registered words order c.requires.names is_order,
      driven_by c.args.strategy (λ s. (goal.ReadRoutingStrategy-dyn g s.now).picks s.now.1) plan names registered words entries order old new _ c.requires.names c.in_ok-plan.ensures.nodes
          (c.in-Ok.ensures.driven (asked registered) ready.0 ready.1 refl refl tt),
    )

pub returns-in-Ok-clause-willing : goal.returns-in-Ok-clause-willing
returns-in-Ok-clause-willing g c = λ count ending may. c.requires.willing count ending ((c.in-Ok.ensures.frame.may_refuse count ending).0 may)

pub returns-clause-willing : goal.returns-clause-willing
returns-clause-willing g c = λ count ending may. c.requires.willing count ending ((c.in-Err.ensures.frame.may_refuse count ending).0 may)

pub returns-clause-refused : goal.returns-clause-refused
returns-clause-refused g c =
    let names = c.args.read_only.now in
    let registered = registered_in c.args.nodes.now in
    let words = c.args.command.now in
    let entries = c.args.slot_map.now in
    let order = c.deref.result.now in
    let plan = c.in_ok-plan.plan in
    let asked : Registrations → Request = λ known. request (map Some words) (names_of names known) entries order in
    let ready = subst (λ known. (command : MultiKey) × IsPlanFor (asked known) plan command) c.registry.ensures (c.in_ok-plan.ensures.ready order) in
    let is_order = plan_order c.args.direction.now (names_of names registered) words order plan.split.routes (covered_routes (asked registered) (map (λ t. t.0) plan.split.routes) ready.0 ready.1.is_covered) (c.deref.ensures.value ∙ c.in_ok-order.ensures ∙ ap (send_order c.args.direction.now) c.len.ensures.len) in
    let old = state (keyspace_in c.args.nodes.now) (trace_in c.args.nodes.now) (mark_in c.args.nodes.now) in
    let new = state (keyspace_in c.drive_plan.new.nodes) (trace_in c.drive_plan.new.nodes) (mark_in c.drive_plan.new.nodes) in
    let fault = c.in-Err.error.fault in
    let answered = c.in-Err.error.answered in
    let is_fault = c.in-Err.ensures.fault (asked registered) ready.0 ready.1 refl refl tt in
    rw c.command_fault.ensures
    (why_not_run (IsPlanNode plan) names registered words entries order old new (MayRefuse c.args.nodes.now) c.requires.names c.requires.willing fault answered
    (good_order (IsPlanNode plan) names registered words entries order old new (MayRefuse c.args.nodes.now) c.args.direction.now fault answered is_order is_fault) is_fault)

pub returns-clause-unsent : goal.returns-clause-unsent
returns-clause-unsent g c =
    let names = c.args.read_only.now in
    let registered = registered_in c.args.nodes.now in
    let words = c.args.command.now in
    let entries = c.args.slot_map.now in
    let order = c.deref.result.now in
    let plan = c.in_ok-plan.plan in
    let asked : Registrations → Request = λ known. request (map Some words) (names_of names known) entries order in
    let ready = subst (λ known. (command : MultiKey) × IsPlanFor (asked known) plan command) c.registry.ensures (c.in_ok-plan.ensures.ready order) in
    let is_order = plan_order c.args.direction.now (names_of names registered) words order plan.split.routes (covered_routes (asked registered) (map (λ t. t.0) plan.split.routes) ready.0 ready.1.is_covered) (c.deref.ensures.value ∙ c.in_ok-order.ensures ∙ ap (send_order c.args.direction.now) c.len.ensures.len) in
    let old = state (keyspace_in c.args.nodes.now) (trace_in c.args.nodes.now) (mark_in c.args.nodes.now) in
    let new = state (keyspace_in c.drive_plan.new.nodes) (trace_in c.drive_plan.new.nodes) (mark_in c.drive_plan.new.nodes) in
    let fault = c.in-Err.error.fault in
    let answered = c.in-Err.error.answered in
    let is_fault = c.in-Err.ensures.fault (asked registered) ready.0 ready.1 refl refl tt in
    rw c.command_fault.ensures
    (unsent (IsPlanNode plan) names registered words entries order old new (MayRefuse c.args.nodes.now) c.requires.willing fault answered is_fault)

pub drive_plan-requires-clause-command : goal.drive_plan-requires-clause-command
drive_plan-requires-clause-command c = grind (arith, common_steps)

pub drive_plan-requires-clause-untold : goal.drive_plan-requires-clause-untold
drive_plan-requires-clause-untold c = grind (arith, common_steps)

pub returns-clause-registered : goal.returns-clause-registered
returns-clause-registered c = grind (arith, common_steps)

pub returns-in-Ok-clause-registered : goal.returns-in-Ok-clause-registered
returns-in-Ok-clause-registered c = grind (arith, common_steps)

pub returns-in_err-order-clause-refused : goal.returns-in_err-order-clause-refused
returns-in_err-order-clause-refused c = grind (arith, common_steps)
