use Rattle.std.proofs.Common.{◌≡◌, ◌+◌, ◌∷◌, ap, sym, ◌∙◌, map, drop, Some, arith}
use Rattle.std.proofs.lemmas.List.{drop_more, length-drop}
use Rattle.resp_core.specs.View.{view}
use Rattle.redis_combiners.specs.Misfits.{first_misfit}
use Rattle.redis_combiners.proofs.Misfits.{no_array}
use Rattle.redis_combiners.proofs.fit.check_fit.Goals as goal

pub returns-in_default : goal.returns-in_default
returns-in_default c =
    let vs = c.args.values.now in
    let counts = c.args.counts.now in
    let k = c.loop-k.k in
    let v = c.index-values-k.result in
    let next : drop k vs ≡ v ∷ drop (k + 1) vs = drop_more vs k v (omega arith) ∙ ap (λ w. w ∷ drop (k + 1) vs) (sym c.index-values-k.is) in
    no_array v (drop (k + 1) vs) (drop k vs) counts k (first_misfit (map view vs) counts) (omega (arith, length-drop k vs, c.requires)) next c.in_default.ensures.items c.loop-k.invariant
    ∙ ap (λ e. Some e.kind) (sym c.from.ensures)
