use Rattle.std.proofs.Common.{◌∙◌, map, ap, sym, arith}
use Rattle.std.specs.Prelude.{position}
use Rattle.std.proofs.lemmas.List.{length-map}
use Rattle.resp_core.specs.Reply.{bulk_string_of}
use Rattle.resp_core.specs.View.{view}
use Rattle.redis_routing.specs.Command.{is_word}
use Rattle.redis_routing.proofs.Arguments.{arguments_of_items, bulk_at, none_more, found_at, found_nowhere}
use Rattle.redis_routing.proofs.routable.ValueRoutable.position.Goals as goal

pub loop-place-preserved : goal.loop-place-preserved
loop-place-preserved c =
    none_more c.args.candidate.now (map bulk_string_of (map view c.in_ok-items.items.now)) c.loop-place.place c.loop-place.invariant
    (ap (is_word c.args.candidate.now) (sym (c.as_bulk_string.ensures ∙ bulk_at c.in_ok-items.items.now c.loop-place.place c.index-items-place.result (omega arith) c.index-items-place.is)) ∙ sym c.is_candidate.ensures ∙ c.if-is_candidate.false)

pub returns-then-is_candidate-clause-place : goal.returns-then-is_candidate-clause-place
returns-then-is_candidate-clause-place c =
    found_at c.args.candidate.now (map bulk_string_of (map view c.in_ok-items.items.now)) c.loop-place.place (rw (length-map, length-map) (omega arith)) c.loop-place.invariant
    (ap (is_word c.args.candidate.now) (sym (c.as_bulk_string.ensures ∙ bulk_at c.in_ok-items.items.now c.loop-place.place c.index-items-place.result (omega arith) c.index-items-place.is)) ∙ sym c.is_candidate.ensures ∙ c.if-is_candidate.true)
    ∙ ap (position (is_word c.args.candidate.now)) (sym (arguments_of_items c.args.self.now c.in_ok-items.items.now c.in_ok-items.ensures.items))

pub returns-clause-place : goal.returns-clause-place
returns-clause-place c =
    found_nowhere c.args.candidate.now (map bulk_string_of (map view c.in_ok-items.items.now)) c.loop-place.place (rw (length-map, length-map) (omega arith)) c.loop-place.invariant
    ∙ ap (position (is_word c.args.candidate.now)) (sym (arguments_of_items c.args.self.now c.in_ok-items.items.now c.in_ok-items.ensures.items))
