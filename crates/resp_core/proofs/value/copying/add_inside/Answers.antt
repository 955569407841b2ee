use Rattle.std.proofs.Common.{◌++◌, ◌∙◌, ap, sym, map}
use Rattle.std.proofs.lemmas.Result.{on_ok_weaker}
use Rattle.resp_core.specs.View.{view}
use Rattle.resp_core.proofs.Copying.{inside-Array}
use Rattle.resp_core.proofs.value.copying.add_inside.Goals as goal

pub returns-in-Array : goal.returns-in-Array
returns-in-Array c =
    let is = sym (inside-Array c.args.value.now c.in-Array.items c.in-Array.is) in
    on_ok_weaker c.add_items.result (λ e. e ∙ ap (λ rs. map (λ v. view v.now) c.args.waiting.now.items ++ rs) is) c.add_items.ensures
