use Rattle.std.proofs.Common.{ap, sym, ◌∙◌, map, Some}
use Rattle.resp_core.specs.Reply.{array_of}
use Rattle.resp_core.specs.View.{view}
use Rattle.resp_core.proofs.Views.{array_of-Array}
use Rattle.resp_core.proofs.value.Value.as_array.Goals as goal

pub returns-in-Array-clause-items : goal.returns-in-Array-clause-items
returns-in-Array-clause-items c =
    ap (λ vs. Some (map view vs)) c.as_slice.ensures.value
    ∙ sym (ap (λ v. array_of (view v)) c.in-Array.is ∙ array_of-Array c.in-Array.items)
