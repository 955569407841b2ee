use Rattle.std.proofs.Common.{IfNone, ℕ, sym, ap, ◌∙◌, subst}
use Rattle.session_core.specs.Inner.Lane.{IsNext}
use Rattle.session_core.specs.Inner.Lone.{with_lone}
use Rattle.session_core.specs.Inner.Tied.{Lanes, lane_of}
use Rattle.session_core.proofs.open_parts.OpenParts.askable.Goals as goal

pub returns-in-Some-clause-none : goal.returns-in-Some-clause-none
returns-in-Some-clause-none c =
    subst (λ (ls : Lanes). IfNone c.askable.result ((place : ℕ) → IsNext place (lane_of c.args.slot ls) → ⊥))
    (sym (ap (λ o. with_lone o c.self.inside.lanes.entries) c.in-Some.is) ∙ c.self.view_is) c.askable.ensures.none

pub returns-in-None-clause-none : goal.returns-in-None-clause-none
returns-in-None-clause-none c =
    subst (λ (ls : Lanes). IfNone c.askable-in-None.result ((place : ℕ) → IsNext place (lane_of c.args.slot ls) → ⊥))
    (sym (ap (λ o. with_lone o c.self.inside.lanes.entries) c.in-None.is) ∙ c.self.view_is) c.askable-in-None.ensures.none
