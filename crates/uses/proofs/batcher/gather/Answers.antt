use Rattle.std.proofs.Common.{◌≡◌, ◌++◌, ◌∷◌, [], List, Result, Ok, Some, None, map, length, refl, sym, ◌∙◌, ap, arith, slice_get, slice_set}
use Rattle.std.proofs.lemmas.Grind.{common_steps}
use Rattle.redis_cluster.specs.Plan.{Plan}
use Rattle.std.proofs.lemmas.List.{length-map, map-append}
use Rattle.resp_core.specs.ErrorParts.{ErrorParts}
use Rattle.resp_core.specs.View.{view}
use Rattle.resp_core.specs.declared.value.Value.{Value}
use Rattle.uses.specs.Batch.{IsGathered, IsNotCombined, IsUngathered}
use Rattle.uses.specs.declared.batcher.BatchError.TheVariants.{NotCombined}
use Rattle.uses.proofs.Ended.{ended, refused_so, with_told, if_ok, if_err}
use Rattle.uses.proofs.Telling.{after_telling, on_ok, tell_one}
use Rattle.uses.proofs.batcher.gather.Goals as goal

pub loop-number-preserved : goal.loop-number-preserved
loop-number-preserved c =
    let number_is : c.in-Some.number ≡ length c.loop-number.yielded = grind (arith, common_steps) in
    let told_before : List (Result Value ErrorParts) = map Ok (map (λ p. p.1) c.loop-number.yielded) in
    let before_many : length told_before ≡ length c.loop-number.yielded = length-map (map (λ p. p.1) c.loop-number.yielded) Ok ∙ length-map c.loop-number.yielded (λ p. p.1) in
    let more : map Ok (map (λ p. p.1) (c.loop-number.yielded ++ (c.in-Some.number, c.in-Some.reply) ∷ [])) ≡ told_before ++ Ok c.in-Some.reply ∷ [] = grind (arith, common_steps, map-append) in
    let after : Plan = record {
      split = c.loop-number.plan.split;
      nodes = c.loop-number.plan.nodes;
      parts = c.loop-number.plan.parts;
      answers = slice_set c.loop-number.plan.answers c.in-Some.number (Some (Ok c.in-Some.reply));
    } in
    let told : (slice_get c.loop-number.plan.answers c.in-Some.number ≡ Some None) × (c.tell.new.self ≡ after) =
    on_ok ((slice_get c.loop-number.plan.answers c.in-Some.number ≡ Some None) × (c.tell.new.self ≡ after)) c.tell.result c.tell.ensures.told (sym c.is_err.ensures.value ∙ c.if-is_err.false) in
    let there = ap (λ (p : Plan). slice_get p.answers c.in-Some.number) (sym c.loop-number.invariant.1) ∙ told.0 in (
      grind (arith, common_steps),
      told.1 ∙ ap (λ (p : Plan). record p { answers = slice_set p.answers c.in-Some.number (Some (Ok c.in-Some.reply)) }) c.loop-number.invariant.1
          ∙ ap (λ answers. record (c.args.plan) { answers = answers }) (tell_one c.args.plan.answers _ _ told_before c.in-Some.number (Ok c.in-Some.reply) (number_is ∙ sym before_many) refl (there, refl) ∙ ap (after_telling c.args.plan.answers) (sym more)),
      grind (arith, common_steps),
    )

pub returns-then-is_err-clause-cause : goal.returns-then-is_err-clause-cause
returns-then-is_err-clause-cause c =
    refused_so c.args.plan c.args.answers.items c.in_ok-replies.replies.items c.not_combined.result c.in_ok-replies.ensures.replies c.not_combined.ensures

pub returns-clause-gathered : goal.returns-clause-gathered
returns-clause-gathered c =
    let all : map (λ p. p.1) c.loop-number.yielded ≡ c.in_ok-replies.replies.items = grind (arith, common_steps) in
    let are : c.loop-number.plan ≡ with_told c.args.plan c.in_ok-replies.replies.items = c.loop-number.invariant.1 ∙ ap (with_told c.args.plan) all in
    let outcome = ended c.args.plan c.loop-number.plan c.args.answers.items c.in_ok-replies.replies.items c.in_ok-replies.ensures.replies are c.combine.result c.combine.ensures.joined c.combine.ensures.amid c.combine.ensures.untold in
    if_ok _ (λ reply. IsGathered c.args.plan c.args.answers.items (view reply)) (λ error. IsNotCombined c.args.plan c.args.answers.items error) c.combine.result c.map_err.result outcome c.map_err.ensures.cases

pub returns-clause-cause : goal.returns-clause-cause
returns-clause-cause c =
    let all : map (λ p. p.1) c.loop-number.yielded ≡ c.in_ok-replies.replies.items = grind (arith, common_steps) in
    let are : c.loop-number.plan ≡ with_told c.args.plan c.in_ok-replies.replies.items = c.loop-number.invariant.1 ∙ ap (with_told c.args.plan) all in
    let outcome = ended c.args.plan c.loop-number.plan c.args.answers.items c.in_ok-replies.replies.items c.in_ok-replies.ensures.replies are c.combine.result c.combine.ensures.joined c.combine.ensures.amid c.combine.ensures.untold in
    if_err (λ error. IsUngathered c.args.plan c.args.answers.items error) NotCombined (λ reply. IsGathered c.args.plan c.args.answers.items (view reply)) (λ error. IsNotCombined c.args.plan c.args.answers.items error) c.combine.result c.map_err.result (λ e is. is) outcome c.map_err.ensures.cases
