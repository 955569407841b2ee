use Rattle.std.proofs.Common.{IfNone, ℕ, sym, subst}
use Rattle.session_core.specs.Inner.Lane.{Lane, IsNext}
use Rattle.session_core.proofs.LaneMaps.{lane_there}
use Rattle.session_core.proofs.lanes.askable.Goals as goal

pub returns-in-Some-clause-none : goal.returns-in-Some-clause-none
returns-in-Some-clause-none c =
    subst (λ (l : Lane). IfNone c.askable.result ((place : ℕ) → IsNext place l → ⊥)) (sym (lane_there c.args.slot c.args.lanes.now c.in-Some.lane.now c.in-Some.ensures.value)) c.askable.ensures.none
