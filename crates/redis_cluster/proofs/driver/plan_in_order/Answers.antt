use Rattle.std.proofs.Common.{◌≡◌, true, refl, sym, subst, arith}
use Rattle.redis_routing.specs.Names.{names_of}
use Rattle.redis_routing.specs.Registry.{Registrations}
use Rattle.redis_cluster.specs.Orders.{NamesOnce}
use Rattle.redis_cluster.specs.Driven.{Request, request}
use Rattle.redis_cluster.specs.Faults.{IsCauseBeforeSending}
use Rattle.redis_cluster.specs.declared.fault.DriveFault.TheVariants.{BadOrder}
use Rattle.redis_cluster.proofs.Planned.{ready}
use Rattle.redis_cluster.proofs.TriedOnce.{bad_order}
use Rattle.redis_cluster.proofs.driver.plan_in_order.Goals as goal

pub returns-in-Ok-true-clause-ready : goal.returns-in-Ok-true-clause-ready
returns-in-Ok-true-clause-ready g c = grind (arith, ready)

pub returns-in-Ok-false-clause-early : goal.returns-in-Ok-false-clause-early
returns-in-Ok-false-clause-early g c =
    let order = c.args.order.now in
    let asked : Registrations → Request = λ registered. request (g.R.Routable.args c.args.command.now) (names_of c.args.read_only.now registered) c.args.slot_map.now order in
    let is = c.in-Ok.ensures.ready order in
    subst (λ registered. IsCauseBeforeSending (asked registered) BadOrder) c.registry.ensures
    (bad_order (asked c.registry.result.now) order c.in-Ok.plan is.0 is.1 refl
    (λ once. absurd (let named : c.in-Ok-false.field-0 ≡ true = c.in-Ok-false.ensures.1 (subst (λ n. NamesOnce n order) (sym c.len.ensures.len) once) in cc (named, c.in-Ok-false.field-0-test))))
