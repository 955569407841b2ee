use Rattle.std.proofs.Common.{◌∙◌, map, Some, ap, sym, arith}
use Rattle.std.proofs.lemmas.List.{length-map}
use Rattle.redis_routing.specs.Command.{is_word}
use Rattle.redis_routing.proofs.Arguments.{argument-map-Some, none_more, found_at, found_nowhere}
use Rattle.redis_routing.proofs.routable.CmdRoutable.position.Goals as goal

pub loop-place-preserved : goal.loop-place-preserved
loop-place-preserved c =
    none_more c.args.candidate.now (map Some c.args.self.now) c.loop-place.place c.loop-place.invariant
    (ap (is_word c.args.candidate.now) (sym (c.arg_idx.ensures.item ∙ argument-map-Some c.args.self.now c.loop-place.place)) ∙ sym c.is_candidate.ensures ∙ c.if-is_candidate.false)

pub returns-then-is_candidate-clause-place : goal.returns-then-is_candidate-clause-place
returns-then-is_candidate-clause-place c =
    found_at c.args.candidate.now (map Some c.args.self.now) c.loop-place.place (rw length-map (omega arith)) c.loop-place.invariant
    (ap (is_word c.args.candidate.now) (sym (c.arg_idx.ensures.item ∙ argument-map-Some c.args.self.now c.loop-place.place)) ∙ sym c.is_candidate.ensures ∙ c.if-is_candidate.true)

pub returns-clause-place : goal.returns-clause-place
returns-clause-place c = found_nowhere c.args.candidate.now (map Some c.args.self.now) c.loop-place.place (rw length-map (omega arith)) c.loop-place.invariant
