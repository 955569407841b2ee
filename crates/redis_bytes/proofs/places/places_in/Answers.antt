use Rattle.std.proofs.Common.{◌≡◌, ◌+◌, ◌<◌, ◌^◌, ℕ, List, Vec, Global, cond, length, slice_index, sym, ap, subst, ◌∙◌, arith}
use Rattle.std.specs.Prelude.{nat_eq}
use Rattle.std.specs.List.{sum_by}
use Rattle.cluster_slots.specs.SlotRoute.{SlotRoute}
use Rattle.redis_routing.specs.Split.{slots_of}
use Rattle.redis_cluster.specs.Orders.{times}
use Rattle.redis_cluster.specs.Plan.{tuples_in_split}
use Rattle.redis_cluster.proofs.Places.{numbers_of_slot}
use Rattle.redis_cluster.proofs.SplitTuples.{is_split_to}
use Rattle.redis_combiners.specs.KeyPlaces.{places}
use Rattle.redis_bytes.proofs.PartNumbers.{HasPlaces, all_keys, all_placed, as_many_slots, keys_at_route, keys_by_slot, keys_listed, more_places, no_places, route_at}
use Rattle.redis_bytes.proofs.Taking.{whole_back}
use Rattle.redis_bytes.proofs.places.places_in.Goals as goal

pub loop-number-init : goal.loop-number-init
loop-number-init g c =
    let split = c.args.split.now in
    let held = c.routes-routes.ensures.split in
    let ts = tuples_in_split split in
    let slots = slots_of split.routes in
    let pattern = c.pattern-pattern.result in
    let routes = c.routes-routes.result.now in
    let all = all_keys split held pattern routes c.pattern-pattern.ensures c.routes-routes.ensures.routes in
    let few : sum_by (λ (own : List ℕ). length own) (keys_by_slot ts slots) < 2 ^ 63 = omega (arith, all, (is_split_to split held).few) in
    let count : c.keys_in.result ≡ length ts = c.keys_in.ensures (keys_by_slot ts slots) (keys_listed split held pattern routes c.pattern-pattern.ensures c.routes-routes.ensures.routes) few ∙ all in
    record {
      long = omega (arith, c.in_ok-found.ensures.len, c.in_ok-found.found.ok.0, count);
      placed = no_places slots ts c.in_ok-found.found.items;
    }

pub loop-number-preserved : goal.loop-number-preserved
loop-number-preserved g c =
    let split = c.args.split.now in
    let held = c.routes-routes.ensures.split in
    let ts = tuples_in_split split in
    let slots = slots_of split.routes in
    let pattern = c.pattern-pattern.result in
    let routes = c.routes-routes.result.now in
    let r = c.index-routes-number.result in
    let number = c.loop-number.number in
    let old = c.loop-number.found.items in
    let new = c.put_number.new.found in
    let few : number < length routes = omega (arith, c.loop-number-test.true) in
    let at = route_at split held pattern routes c.pattern-pattern.ensures c.routes-routes.ensures.routes number r few c.index-routes-number.is in
    let keys = keys_at_route split held pattern routes c.pattern-pattern.ensures c.routes-routes.ensures.routes number r few c.index-routes-number.is in
    let same : length new ≡ length old = omega (arith, c.put_number.auto.found, ap (length {A = ℕ}) c.deref_mut.ensures.value) in
    let back = whole_back c.loop-number.found.len new old same c.loop-number.found.ok.0 in
    let Put : List ℕ → Type 0 = λ (xs : List ℕ). (k : ℕ) → k < length xs → slice_index new k ≡ cond (nat_eq (times k (numbers_of_slot r.0.slot ts)) 0) (slice_index xs k) number in
    let list : c.deref.result.now ≡ r.1.items = c.deref.ensures.value ∙ sym (ap (λ (x : SlotRoute × Vec ℕ Global). x.1.items) c.index-routes-number.is) in
    let put : Put old = subst Put c.deref_mut.ensures.value (λ k within. c.put_number.ensures (numbers_of_slot r.0.slot ts) k (ap (places pattern) list ∙ keys) within) in
    record {
      long = ap (length {A = ℕ}) back ∙ same ∙ c.loop-number.invariant.long;
      placed = subst (HasPlaces slots ts (number + 1)) (sym back) (more_places slots ts (is_split_to split held).apart number r.0.slot old new at c.loop-number.invariant.long c.loop-number.invariant.placed put);
    }

pub returns-clause-places : goal.returns-clause-places
returns-clause-places g c =
    let split = c.args.split.now in
    let held = c.routes-routes.ensures.split in
    let ts = tuples_in_split split in
    let slots = slots_of split.routes in
    let found = c.loop-number.found.items in
    let to = is_split_to split held in
    let many : c.loop-number.number ≡ length slots = omega (arith, c.loop-number-test.false, c.loop-number.auto.number-end, as_many_slots split held c.pattern-pattern.result c.routes-routes.result.now c.pattern-pattern.ensures c.routes-routes.ensures.routes) in
    all_placed slots ts to.apart found to.named c.loop-number.invariant.long (subst (λ (n : ℕ). HasPlaces slots ts n found) many c.loop-number.invariant.placed)
