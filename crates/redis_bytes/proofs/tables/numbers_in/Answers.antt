use Rattle.std.proofs.Common.{ℕ, ◌<◌, get_or, subst, arith}
use Rattle.cluster_slots.specs.SlotRoute.{SlotRoute}
use Rattle.redis_bytes.specs.Table.{IsNodeNumber, addresses}
use Rattle.redis_bytes.proofs.Numbers.{stays_numbered, grows_by_one, numbers_more, used_more, distinct}
use Rattle.redis_bytes.proofs.tables.numbers_in.Goals as goal

pub loop-slot-preserved : goal.loop-slot-preserved
loop-slot-preserved c =
    let old = c.loop-slot.nodes.items in
    let new = c.number_at.new.nodes.items in
    let grown = c.in_ok-number.ensures.grown in
    let route : ℕ → SlotRoute = λ slot. record { slot = slot; addr = c.args.addr } in
    let numbered : ℕ → ℕ → Type 0 = λ k n. IsNodeNumber c.args.map.now (addresses new) (route k) c.args.pick n in
    let here : numbered c.loop-slot.slot c.in_ok-number.number = subst (λ (r : SlotRoute). IsNodeNumber c.args.map.now (addresses new) r c.args.pick c.in_ok-number.number) c.new-route.ensures c.in_ok-number.ensures.found in
    let before = λ (k : ℕ) (lt : k < c.loop-slot.slot). stays_numbered c.args.map.now old new (route k) c.args.pick c.in_ok-number.number (get_or c.loop-slot.numbers.items k 0) grown (c.loop-slot.invariant.each k lt) in
    let more = numbers_more numbered c.loop-slot.numbers.items c.push.new.self.items c.loop-slot.slot c.in_ok-number.number c.loop-slot.invariant.count before here c.in_ok-push.ensures.items in
    record {
      count = more.0;
      few = omega (arith, grows_by_one old new c.in_ok-number.number grown, c.loop-slot.invariant.few);
      each = more.1;
      used = used_more c.loop-slot.numbers.items c.push.new.self.items old new c.in_ok-number.number c.in_ok-push.ensures.items grown c.loop-slot.invariant.used;
      placed = c.in_ok-number.ensures.placed;
    }

pub returns-clause-once : goal.returns-clause-once
returns-clause-once c = distinct c.loop-slot.nodes.items c.loop-slot.places c.loop-slot.invariant.placed
