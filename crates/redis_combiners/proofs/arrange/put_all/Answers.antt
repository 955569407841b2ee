use Rattle.std.proofs.Common.{◌≡◌, List, length, map, take, get_or, ap, sym, ◌∙◌, arith}
use Rattle.std.proofs.Math.ListN.{set}
use Rattle.std.specs.Prelude.{option_and_then, true}
use Rattle.std.proofs.lemmas.List.{length-map, map-set}
use Rattle.resp_core.specs.Reply.{Reply}
use Rattle.resp_core.specs.View.{view}
use Rattle.redis_combiners.specs.Spots.{spots_of, filled}
use Rattle.redis_combiners.proofs.Filling.{next_item, put_past, put_taken, put_free}
use Rattle.redis_combiners.proofs.arrange.put_all.Goals as goal

pub returns-then-place-taken : goal.returns-then-place-taken
returns-then-place-taken c =
    let taken = c.loop-item.taken in
    let sorted : List Reply = map view c.loop-item.sorted in
    let ps = c.args.places.now in
    let ws = c.pop.new.self.items in
    let item = c.in-Some.item in
    let same : length taken ≡ length sorted = omega (arith, length-map c.loop-item.sorted view, c.loop-item.auto.taken, c.loop-item.auto.sorted, c.requires.spots) in
    let step = next_item (spots_of taken sorted) ps c.loop-item.items.items ws item c.len.result (filled (spots_of c.args.taken.now (map view c.args.sorted.now)) ps (map view c.args.items.items)) c.in-Some.ensures.items c.loop-item.invariant.few (c.len.ensures ∙ c.pop.new.self.ok.0) c.loop-item.invariant.rest in
    sym (ap (option_and_then (λ later. filled later (take (length ws) ps) (map view ws))) (put_past taken sorted (get_or ps c.len.result 0) (view item) same (omega arith))) ∙ step

pub returns-then-taken-place : goal.returns-then-taken-place
returns-then-taken-place c =
    let taken = c.loop-item.taken in
    let sorted : List Reply = map view c.loop-item.sorted in
    let ps = c.args.places.now in
    let ws = c.pop.new.self.items in
    let item = c.in-Some.item in
    let same : length taken ≡ length sorted = omega (arith, length-map c.loop-item.sorted view, c.loop-item.auto.taken, c.loop-item.auto.sorted, c.requires.spots) in
    let step = next_item (spots_of taken sorted) ps c.loop-item.items.items ws item c.len.result (filled (spots_of c.args.taken.now (map view c.args.sorted.now)) ps (map view c.args.items.items)) c.in-Some.ensures.items c.loop-item.invariant.few (c.len.ensures ∙ c.pop.new.self.ok.0) c.loop-item.invariant.rest in
    sym (ap (option_and_then (λ later. filled later (take (length ws) ps) (map view ws))) (put_taken taken sorted (get_or ps c.len.result 0) (view item) same (omega arith) c.if-taken-place.true)) ∙ step

pub loop-item-preserved : goal.loop-item-preserved
loop-item-preserved c =
    let taken = c.loop-item.taken in
    let sorted : List Reply = map view c.loop-item.sorted in
    let ps = c.args.places.now in
    let ws = c.pop.new.self.items in
    let item = c.in-Some.item in
    let place = get_or ps c.len.result 0 in
    let same : length taken ≡ length sorted = omega (arith, length-map c.loop-item.sorted view, c.loop-item.auto.taken, c.loop-item.auto.sorted, c.requires.spots) in
    let step = next_item (spots_of taken sorted) ps c.loop-item.items.items ws item c.len.result (filled (spots_of c.args.taken.now (map view c.args.sorted.now)) ps (map view c.args.items.items)) c.in-Some.ensures.items c.loop-item.invariant.few (c.len.ensures ∙ c.pop.new.self.ok.0) c.loop-item.invariant.rest in
    record {
      few = grind arith;
      rest = ap (λ items. filled (spots_of (set taken place true) items) (take (length ws) ps) (map view ws)) (map-set view c.loop-item.sorted place item)
          ∙ sym (ap (option_and_then (λ later. filled later (take (length ws) ps) (map view ws))) (put_free taken sorted place (view item) same (omega arith) c.if-taken-place.false))
          ∙ step;
    }
