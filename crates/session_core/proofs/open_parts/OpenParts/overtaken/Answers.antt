use Rattle.std.proofs.Common.{IfNone, ◌≤◌, ℕ, sym, ap, ◌∙◌, subst}
use Rattle.session_core.specs.Inner.Lane.{In}
use Rattle.session_core.specs.Inner.Lone.{with_lone}
use Rattle.session_core.specs.Inner.Tied.{Lanes, lane_of}
use Rattle.session_core.proofs.open_parts.OpenParts.overtaken.Goals as goal

pub returns-in-None-clause-none : goal.returns-in-None-clause-none
returns-in-None-clause-none c =
    subst (λ (ls : Lanes). IfNone c.overtaken.result ((place : ℕ) → In place (lane_of c.args.slot ls).waiting → (lane_of c.args.slot ls).settled_end ≤ place))
    (sym (ap (λ o. with_lone o c.self.inside.lanes.entries) c.in-None.is) ∙ c.self.view_is) c.overtaken.ensures.none
