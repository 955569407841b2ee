use Rattle.std.proofs.Common.{IfNone, ◌≤◌, ℕ, sym, ap, ◌∙◌, subst}
use Rattle.session_core.specs.Inner.Lane.{In, Lane}
use Rattle.session_core.specs.Inner.LaneForms.{lane_in}
use Rattle.session_core.proofs.lane.Lane.overtaken.Goals as goal

pub returns-in-Many-clause-none : goal.returns-in-Many-clause-none
returns-in-Many-clause-none c =
    subst (λ (l : Lane). IfNone c.overtaken.result ((place : ℕ) → In place l.waiting → l.settled_end ≤ place)) (c.deref.ensures ∙ sym (ap lane_in c.in-Many.is) ∙ c.self.view_is)
    c.overtaken.ensures.none
