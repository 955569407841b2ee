use Rattle.std.proofs.Common.{ap, sym, ◌∙◌}
use Rattle.resp_core.specs.Reply.{array_of}
use Rattle.resp_core.specs.View.{view}
use Rattle.resp_core.proofs.Views.{array_of-Array}
use Rattle.resp_core.proofs.value.Value.into_array.Goals as goal

pub returns-in-Array : goal.returns-in-Array
returns-in-Array c = sym (ap (λ v. array_of (view v)) c.in-Array.is ∙ array_of-Array c.in-Array.items)
