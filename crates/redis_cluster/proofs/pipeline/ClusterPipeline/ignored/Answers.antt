use Rattle.std.proofs.Common.{◌∙◌, sym, ap, false, get_or}
use Rattle.std.proofs.lemmas.List.{get_or_past}
use Rattle.std.proofs.lemmas.Slice.Zip.{seconds-zip}
use Rattle.redis_cluster.proofs.pipeline.ClusterPipeline.ignored.Goals as goal

pub returns-in-Some : goal.returns-in-Some
returns-in-Some c =
    rw (← c.self.view_is, seconds-zip c.self.inside.commands.items c.self.inside.ignored.items c.self.invariant)
    (c.in-Some.ensures.lookup.3.1 false ∙ ap (λ marks. get_or marks c.args.index false) c.deref.ensures.value)

pub returns-in-None : goal.returns-in-None
returns-in-None c =
    rw (← c.self.view_is, seconds-zip c.self.inside.commands.items c.self.inside.ignored.items c.self.invariant)
    (sym (get_or_past c.deref.result.now c.args.index false c.in-None.ensures.lookup.3) ∙ ap (λ marks. get_or marks c.args.index false) c.deref.ensures.value)
