use Rattle.std.proofs.Common.{◌≡◌, ◌+◌, ◌-◌, ap, ◌∙◌, arith, length, nat_eq, if◌then◌else◌}
use Rattle.redis_routing.specs.Inner.SlotPages.{number_among, number_or}
use Rattle.redis_routing.specs.RoutingInfo.{route_lists}
use Rattle.redis_routing.specs.Split.{slots_of}
use Rattle.redis_routing.proofs.Grouping.{slots_len}
use Rattle.redis_routing.proofs.SlotNumbers.{number_index, number_inserted}
use Rattle.redis_routing.proofs.splitting.list_index.Goals as goal

pub returns-clause-index : goal.returns-clause-index
returns-clause-index c =
    let slots = slots_of (route_lists c.args.lists.now) in
    let next : c.in-Ok.next ≡ length slots + 1 = grind (arith, slots_len) in
    let number : c.in_ok-number.number ≡ number_or c.in-Ok.next (number_among slots c.args.slot) =
    c.in_ok-number.ensures.number ∙ ap (number_or c.in-Ok.next) (c.requires.slots c.args.slot) in
    ap (λ n. n - 1) c.from.ensures ∙ number_index slots c.args.slot c.in-Ok.next c.in_ok-number.number next number

pub returns-clause-slots : goal.returns-clause-slots
returns-clause-slots c other =
    let slots = slots_of (route_lists c.args.lists.now) in
    let next : c.in-Ok.next ≡ length slots + 1 = grind (arith, slots_len) in
    let number : c.in_ok-number.number ≡ number_or c.in-Ok.next (number_among slots c.args.slot) =
    c.in_ok-number.ensures.number ∙ ap (number_or c.in-Ok.next) (c.requires.slots c.args.slot) in
    c.in_ok-number.ensures.numbers other
    ∙ ap (λ n. if nat_eq c.args.slot other then c.in_ok-number.number else n) (c.requires.slots other)
    ∙ number_inserted slots c.args.slot c.in-Ok.next c.in_ok-number.number next number other
