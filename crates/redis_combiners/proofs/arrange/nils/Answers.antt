use Rattle.std.proofs.Common.{◌++◌, ◌∷◌, [], ap, ◌∙◌, map}
use Rattle.std.proofs.lemmas.List.{map_push, replicate_more}
use Rattle.resp_core.specs.declared.value.Value.TheVariants.{Nil}
use Rattle.resp_core.specs.Reply.{nil}
use Rattle.resp_core.specs.View.{view}
use Rattle.resp_core.proofs.Views.{view-Nil}
use Rattle.redis_combiners.proofs.arrange.nils.Goals as goal

pub loop-i-preserved : goal.loop-i-preserved
loop-i-preserved c =
    let so_far = c.loop-i.values.items in
    ap (map view) c.in_ok-push.ensures.items
    ∙ map_push view so_far Nil
    ∙ ap (λ last. map view so_far ++ last ∷ []) view-Nil
    ∙ ap (λ values. values ++ nil ∷ []) c.loop-i.invariant
    ∙ replicate_more c.loop-i.i nil
