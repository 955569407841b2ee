use Rattle.std.proofs.Common.{◌≡◌, ◌<◌, ◌≤◌, ◌+◌, ◌-◌, ◌++◌, ◌∷◌, [], ap, sym, ◌∙◌, subst, arith, nat_eq, length}
use Rattle.std.specs.List.{position_or_len, range_with_len}
use Rattle.std.proofs.lemmas.List.{length-map, map_push}
use Rattle.std.proofs.lemmas.Result.{on_ok_weaker}
use Rattle.indexmap.specs.IndexSet.{insert_key}
use Rattle.redis_routing.specs.Inner.SlotPages.{ArePagesOf}
use Rattle.redis_routing.specs.RoutingInfo.{route_list, route_lists}
use Rattle.redis_routing.specs.Split.{slots_of}
use Rattle.redis_routing.proofs.Grouping.{list_added, lists_longer, slot_added}
use Rattle.redis_routing.proofs.splitting.add.Goals as goal

pub returns-then-index-len-clause-lists : goal.returns-then-index-len-clause-lists
returns-then-index-len-clause-lists c =
    let items = c.args.lists.now.items in
    let is : c.in_ok-index.index ≡ position_or_len (nat_eq c.args.route.slot) (slots_of (route_lists items)) = rw (← c.slot.ensures, ← c.deref.ensures.value) c.in_ok-index.ensures.index in
    let inside : c.in_ok-index.index < length items = omega (arith, c.if-index-len.true, c.len.ensures) in
    let size : c.args.place + c.args.width - c.args.place ≡ c.args.width = omega arith in
    on_ok_weaker c.push_places.result
    (λ pushed. lists_longer items c.in_ok-index.index inside c.index_mut.result.now c.index_mut.ensures.value c.args.route (range_with_len c.args.place c.args.width) c.push_places.new.places is (rw size at pushed))
    c.push_places.ensures

pub returns-then-index-len-clause-slots : goal.returns-then-index-len-clause-slots
returns-then-index-len-clause-slots c =
    let items = c.args.lists.now.items in
    let kept : ArePagesOf c.list_index.new.pages (insert_key nat_eq (slots_of (route_lists items)) c.args.route.slot) = rw (← c.slot.ensures, ← c.deref.ensures.value) c.in_ok-index.ensures.slots in
    on_ok_weaker c.push_places.result
    (λ is. subst (ArePagesOf c.list_index.new.pages) (sym (ap slots_of is ∙ slot_added c.args.route (range_with_len c.args.place c.args.width) (route_lists items))) kept)
    (returns-then-index-len-clause-lists c)

pub returns-clause-lists : goal.returns-clause-lists
returns-clause-lists c =
    let items = c.args.lists.now.items in
    let is : c.in_ok-index.index ≡ position_or_len (nat_eq c.args.route.slot) (slots_of (route_lists items)) = rw (← c.slot.ensures, ← c.deref.ensures.value) c.in_ok-index.ensures.index in
    let none : length (route_lists items) ≤ position_or_len (nat_eq c.args.route.slot) (slots_of (route_lists items)) = omega (arith, is, c.if-index-len.false, c.len.ensures, length-map items route_list) in
    let size : c.args.place + c.args.width - c.args.place ≡ c.args.width = omega arith in
    let places : c.push_places-2.new.places.items ≡ range_with_len c.args.place c.args.width = rw (c.new-places.ensures.items, size) at c.in_ok-push_places.ensures in
    ap route_lists c.in_ok-push.ensures.items
    ∙ map_push route_list items (c.args.route, c.push_places-2.new.places)
    ∙ ap (λ ps. route_lists items ++ (c.args.route, ps) ∷ []) places
    ∙ sym (list_added c.args.route (range_with_len c.args.place c.args.width) (route_lists items) none)

pub returns-clause-slots : goal.returns-clause-slots
returns-clause-slots c =
    let items = c.args.lists.now.items in
    let kept : ArePagesOf c.list_index.new.pages (insert_key nat_eq (slots_of (route_lists items)) c.args.route.slot) = rw (← c.slot.ensures, ← c.deref.ensures.value) c.in_ok-index.ensures.slots in
    subst (ArePagesOf c.list_index.new.pages) (sym (ap slots_of (returns-clause-lists c) ∙ slot_added c.args.route (range_with_len c.args.place c.args.width) (route_lists items))) kept
