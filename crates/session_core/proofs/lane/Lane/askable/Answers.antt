use Rattle.std.proofs.Common.{IfNone, ℕ, sym, ap, ◌∙◌, subst}
use Rattle.session_core.specs.Inner.Lane.{Lane, IsNext}
use Rattle.session_core.specs.Inner.LaneForms.{lane_in}
use Rattle.session_core.proofs.lane.Lane.askable.Goals as goal

pub returns-in-One-clause-none : goal.returns-in-One-clause-none
returns-in-One-clause-none c =
    subst (λ (l : Lane). IfNone c.askable.result ((place : ℕ) → IsNext place l → ⊥)) (sym (ap lane_in c.in-One.is) ∙ c.self.view_is) c.askable.ensures.none

pub returns-in-Many-clause-none : goal.returns-in-Many-clause-none
returns-in-Many-clause-none c =
    subst (λ (l : Lane). IfNone c.askable-in-Many.result ((place : ℕ) → IsNext place l → ⊥)) (c.deref.ensures ∙ sym (ap lane_in c.in-Many.is) ∙ c.self.view_is)
    c.askable-in-Many.ensures.none
