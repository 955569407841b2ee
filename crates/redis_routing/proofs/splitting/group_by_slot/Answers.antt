use Rattle.std.proofs.Common.{◌≡◌, ◌<◌, ◌≤◌, ◌+◌, ◌*◌, ◌/◌, ap, sym, ◌∙◌, subst, Some, take, length, arith}
use Rattle.std.proofs.lemmas.Grind.{common_steps}
use Rattle.std.proofs.lemmas.List.{length-map}
use Rattle.std.specs.List.{range_with_len}
use Rattle.cluster_slots.specs.KeySlot.{key_slot}
use Rattle.cluster_slots.specs.ArgPattern.{width_of, tuple_args_count}
use Rattle.redis_routing.specs.Command.{argument}
use Rattle.redis_routing.specs.Groups.{lists_of_tuples, with_places}
use Rattle.redis_routing.specs.Parts.{slot_of}
use Rattle.redis_routing.specs.PresentArguments.{present_arguments_after}
use Rattle.redis_routing.specs.Tuples.{tuples_in, places_of}
use Rattle.redis_routing.specs.RoutingInfo.{route_list}
use Rattle.redis_routing.proofs.Grouping.{few_lists, lists_more}
use Rattle.redis_routing.proofs.TupleSteps.{next_tuple, tuples_end}
use Rattle.redis_routing.proofs.splitting.group_by_slot.Goals as goal

pub unreachable-requires : goal.unreachable-requires
unreachable-requires g c =
    let args = g.R.Routable.args c.args.command.now in
    let i = c.loop-number.number in
    let count : c.args.own / c.width-width.result ≡ tuple_args_count c.args.pattern (length (present_arguments_after c.args.words args)) / width_of c.args.pattern =
    ap (λ o. o / c.width-width.result) c.requires.own ∙ ap (λ w. tuple_args_count c.args.pattern (length (present_arguments_after c.args.words args)) / w) c.width-width.ensures in
    let next = next_tuple c.args.words c.args.pattern args i (subst (λ n. i < n) count c.loop-number-test.true) in
    let here : argument args (i * c.width-width.result + c.args.words) ≡ Some next.0.key = ap (λ w. argument args (i * w + c.args.words)) c.width-width.ensures ∙ next.1.key in
    cc (c.in_default.ensures.argument, here)

pub add-requires-clause-few : goal.add-requires-clause-few
add-requires-clause-few g c =
    let ts = take c.loop-number.number (tuples_in c.args.pattern (present_arguments_after c.args.words (g.R.Routable.args c.args.command.now))) in
    omega (arith, few_lists c.args.nodes ts, ap length c.loop-number.invariant.lists, length-map c.loop-number.lists.items route_list)

pub loop-number-preserved : goal.loop-number-preserved
loop-number-preserved g c =
    let args = g.R.Routable.args c.args.command.now in
    let i = c.loop-number.number in
    let count : c.args.own / c.width-width.result ≡ tuple_args_count c.args.pattern (length (present_arguments_after c.args.words args)) / width_of c.args.pattern =
    ap (λ o. o / c.width-width.result) c.requires.own ∙ ap (λ w. tuple_args_count c.args.pattern (length (present_arguments_after c.args.words args)) / w) c.width-width.ensures in
    let next = next_tuple c.args.words c.args.pattern args i (subst (λ n. i < n) count c.loop-number-test.true) in
    let t = next.0 in
    let here : argument args (i * c.width-width.result + c.args.words) ≡ Some t.key = ap (λ w. argument args (i * w + c.args.words)) c.width-width.ensures ∙ next.1.key in
    let key : c.in-Some.key.now ≡ t.key = cc (c.in-Some.ensures.argument, here) in
    let route : c.with_key-route.result ≡ record { slot = slot_of t; addr = c.args.nodes } = c.with_key-route.ensures.route ∙ ap (λ k. record { slot = key_slot k; addr = c.args.nodes }) key in
    let places : range_with_len (i * c.width-width.result) c.width-width.result ≡ places_of t = ap (λ w. range_with_len (i * w) w) c.width-width.ensures ∙ sym next.1.places in
    let ts = tuples_in c.args.pattern (present_arguments_after c.args.words args) in
    record {
      lists = c.in_ok-add.ensures.lists
          ∙ ap (with_places c.with_key-route.result (range_with_len (i * c.width-width.result) c.width-width.result)) c.loop-number.invariant.lists
          ∙ ap (λ r. with_places r (range_with_len (i * c.width-width.result) c.width-width.result) (lists_of_tuples c.args.nodes (take i ts))) route
          ∙ ap (λ ps. with_places (record { slot = slot_of t; addr = c.args.nodes }) ps (lists_of_tuples c.args.nodes (take i ts))) places
          ∙ lists_more c.args.nodes (take i ts) t (take (i + 1) ts) next.1.taken;
      slots = c.in_ok-add.ensures.slots;
    }

pub returns : goal.returns
returns g c =
    let args = g.R.Routable.args c.args.command.now in
    let count : c.args.own / c.width-width.result ≡ tuple_args_count c.args.pattern (length (present_arguments_after c.args.words args)) / width_of c.args.pattern =
    ap (λ o. o / c.width-width.result) c.requires.own ∙ ap (λ w. tuple_args_count c.args.pattern (length (present_arguments_after c.args.words args)) / w) c.width-width.ensures in
    c.loop-number.invariant.lists
    ∙ ap (lists_of_tuples c.args.nodes) (tuples_end c.args.pattern (present_arguments_after c.args.words args) c.loop-number.number (subst (λ n. n ≤ c.loop-number.number) count c.loop-number-test.false))

pub nonzero_div-count : goal.nonzero_div-count
nonzero_div-count g c = grind (arith, common_steps)

pub loop-number-init : goal.loop-number-init
loop-number-init g c = grind (arith, common_steps)

pub overflow_mul-place : goal.overflow_mul-place
overflow_mul-place g c = grind (arith, common_steps)

pub overflow_add-place : goal.overflow_add-place
overflow_add-place g c = grind (arith, common_steps)

pub add-requires-clause-fits : goal.add-requires-clause-fits
add-requires-clause-fits g c = grind (arith, common_steps)

pub add-requires-clause-slots : goal.add-requires-clause-slots
add-requires-clause-slots g c = grind (arith, common_steps)
