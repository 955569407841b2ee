use Rattle.std.proofs.Common.{IfNone, ℕ, ◌≡◌, sym, subst, arith}
use Rattle.session_core.specs.Inner.Lane.{Lane, IsNext}
use Rattle.session_core.proofs.LoneParts.{lane_here}
use Rattle.session_core.proofs.lone_part.LonePart.askable.Goals as goal

pub returns-clause-none : goal.returns-clause-none
returns-clause-none c =
    let same : c.args.slot ≡ c.args.self.now.slot = omega (arith, c.if-self-slot.false) in
    subst (λ (l : Lane). IfNone c.askable.result ((place : ℕ) → IsNext place l → ⊥)) (sym (lane_here c.args.slot c.args.self.now same)) c.askable.ensures.none
