use Rattle.std.proofs.Common.{◌≡◌, ◌-◌, List, ◌++◌, cond, length, map, take, drop, None, Some, ap, sym, ◌∙◌, subst, arith}
use Rattle.std.proofs.lemmas.Grind.{common_steps}
use Rattle.std.specs.Prelude.{option_and_then}
use Rattle.std.specs.List.{between}
use Rattle.std.proofs.lemmas.List.{length-map, nil_from_length, take_at}
use Rattle.std.proofs.lemmas.List.Edits.{length-between}
use Rattle.resp_core.specs.Reply.{Reply}
use Rattle.resp_core.specs.View.{view}
use Rattle.cluster_slots.specs.Lists.{all_some}
use Rattle.redis_combiners.specs.Spots.{filled, spots_of}
use Rattle.redis_combiners.proofs.Left.{Left, whole_of, left_first, next_is_array, next_reply, none_left, by_spots, spots_as_items}
use Rattle.redis_combiners.proofs.arrange.arrange.Goals as goal

pub loop-value-init : goal.loop-value-init
loop-value-init c = left_first (map view c.args.values.items) c.args.places.now c.in_ok-taken.taken.items (map view c.in_ok-sorted.sorted.items) c.requires (c.in_ok-taken.ensures.items_if_clones_equal (λ b e. e)) c.in_ok-sorted.ensures

pub returns-in_default-into_array : goal.returns-in_default-into_array
returns-in_default-into_array c = absurd (next_is_array c.loop-value.taken.items (map view c.loop-value.sorted.items) c.loop-value.values.items c.pop.new.self.items c.in-Some.value c.args.places.now c.loop-value.end (whole_of c.args.places.now (map view c.args.values.items))
    c.loop-value.invariant c.in-Some.ensures.items c.in_default-into_array.ensures)

pub overflow_sub-start : goal.overflow_sub-start
overflow_sub-start c =
    let vs = c.in-Some-into_array.items in
    let whole = whole_of c.args.places.now (map view c.args.values.items) in
    let next = next_reply c.loop-value.taken.items (map view c.loop-value.sorted.items) c.loop-value.values.items c.pop.new.self.items c.in-Some.value (map view vs.items) c.args.places.now c.loop-value.end c.len.result whole
    c.loop-value.invariant c.in-Some.ensures.items c.in-Some-into_array.ensures (c.len.ensures ∙ vs.ok.0 ∙ sym (length-map vs.items view)) in
    next.few

pub put_all-requires-clause-places : goal.put_all-requires-clause-places
put_all-requires-clause-places c =
    let vs = c.in-Some-into_array.items in
    let whole = whole_of c.args.places.now (map view c.args.values.items) in
    let next = next_reply c.loop-value.taken.items (map view c.loop-value.sorted.items) c.loop-value.values.items c.pop.new.self.items c.in-Some.value (map view vs.items) c.args.places.now c.loop-value.end c.len.result whole
    c.loop-value.invariant c.in-Some.ensures.items c.in-Some-into_array.ensures (c.len.ensures ∙ vs.ok.0 ∙ sym (length-map vs.items view)) in
    omega (arith, length-between c.args.places.now (c.loop-value.end - c.len.result) c.loop-value.end next.within, next.few, c.len.ensures, vs.ok.0)

pub returns-then-not-put_all : goal.returns-then-not-put_all
returns-then-not-put_all c =
    let vs = c.in-Some-into_array.items in
    let places = c.args.places.now in
    let end = c.loop-value.end in
    let start = end - c.len.result in
    let taken = c.loop-value.taken.items in
    let sorted : List Reply = map view c.loop-value.sorted.items in
    let whole = whole_of places (map view c.args.values.items) in
    let next = next_reply taken sorted c.loop-value.values.items c.pop.new.self.items c.in-Some.value (map view vs.items) places end c.len.result whole
    c.loop-value.invariant c.in-Some.ensures.items c.in-Some-into_array.ensures (c.len.ensures ∙ vs.ok.0 ∙ sym (length-map vs.items view)) in
    let stopped : None ≡ filled (spots_of taken sorted) (between start end places) (map view vs.items) =
    ap (λ b. cond b (Some (spots_of c.put_all.new.taken (map view c.put_all.new.sorted))) None) (sym c.if-not-put_all.true)
    ∙ c.put_all.ensures
    ∙ ap (λ bs. filled (spots_of bs (map view c.deref_mut-in-Some.result.now)) (between start end places) (map view vs.items)) c.deref_mut.ensures.value
    ∙ ap (λ ws. filled (spots_of taken (map view ws)) (between start end places) (map view vs.items)) c.deref_mut-in-Some.ensures.value in
    ap (λ o. option_and_then all_some (option_and_then (λ later. filled later (take start places) next.first) o)) stopped
    ∙ ap (option_and_then all_some) next.step
    ∙ sym (by_spots (map view c.args.values.items) places c.requires)

pub loop-value-preserved : goal.loop-value-preserved
loop-value-preserved c =
    let vs = c.in-Some-into_array.items in
    let places = c.args.places.now in
    let end = c.loop-value.end in
    let start = end - c.len.result in
    let taken = c.loop-value.taken.items in
    let sorted : List Reply = map view c.loop-value.sorted.items in
    let rest : List Reply = map view c.pop.new.self.items in
    let whole = whole_of places (map view c.args.values.items) in
    let new_taken = c.put_all.new.taken in
    let new_sorted = c.put_all.new.sorted in
    let next = next_reply taken sorted c.loop-value.values.items c.pop.new.self.items c.in-Some.value (map view vs.items) places end c.len.result whole
    c.loop-value.invariant c.in-Some.ensures.items c.in-Some-into_array.ensures (c.len.ensures ∙ vs.ok.0 ∙ sym (length-map vs.items view)) in
    let went_on : Some (spots_of new_taken (map view new_sorted)) ≡ filled (spots_of taken sorted) (between start end places) (map view vs.items) =
    ap (λ b. cond b (Some (spots_of new_taken (map view new_sorted))) None) (sym c.if-not-put_all.false)
    ∙ c.put_all.ensures
    ∙ ap (λ bs. filled (spots_of bs (map view c.deref_mut-in-Some.result.now)) (between start end places) (map view vs.items)) c.deref_mut.ensures.value
    ∙ ap (λ ws. filled (spots_of taken (map view ws)) (between start end places) (map view vs.items)) c.deref_mut-in-Some.ensures.value in
    let flags : take c.loop-value.taken.len (new_taken ++ drop (length new_taken) taken) ≡ new_taken = take_at new_taken (drop (length new_taken) taken) c.loop-value.taken.len (c.put_all.auto.taken ∙ c.deref_mut.ensures.len) in
    let values : take c.loop-value.sorted.len (new_sorted ++ drop (length new_sorted) c.loop-value.sorted.items) ≡ new_sorted = take_at new_sorted (drop (length new_sorted) c.loop-value.sorted.items) c.loop-value.sorted.len (c.put_all.auto.sorted ∙ c.deref_mut-in-Some.ensures.len) in
    let left : Left new_taken (map view new_sorted) rest places start whole = record {
      items = next.first;
      items_are = next.first_are;
      long = next.long;
      within = omega (arith, next.within);
      flags = c.put_all.auto.taken ∙ ap length c.deref_mut.ensures.value ∙ c.loop-value.invariant.flags;
      spots = length-map new_sorted view ∙ c.put_all.auto.sorted ∙ ap length c.deref_mut-in-Some.ensures.value ∙ sym (length-map c.loop-value.sorted.items view) ∙ c.loop-value.invariant.spots;
      rest = ap (option_and_then (λ later. filled later (take start places) next.first)) went_on ∙ next.step;
    } in
    subst (λ bs. Left bs (map view (take c.loop-value.sorted.len (new_sorted ++ drop (length new_sorted) c.loop-value.sorted.items))) rest places start whole) (sym flags)
    (subst (λ ws. Left new_taken (map view ws) rest places start whole) (sym values) left)

pub returns : goal.returns
returns c = grind (arith, common_steps, whole_of, nil_from_length, Left, spots_as_items, none_left, by_spots)
