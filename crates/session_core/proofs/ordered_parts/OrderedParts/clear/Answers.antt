use Rattle.std.proofs.Common.{sym, subst, List, [], ℕ}
use Rattle.session_core.specs.declared.ordered_part.OrderedPart.{OrderedPart}
use Rattle.session_core.specs.Inner.Tied.{IsTied}
use Rattle.session_core.proofs.OrderAsks.{tied_none}
use Rattle.session_core.proofs.ordered_parts.OrderedParts.clear.Goals as goal

pub invariant_of-self : goal.invariant_of-self
invariant_of-self c =
    subst (λ (ps : List OrderedPart). IsTied (record { first = 0; parts = ps }) c.clear-2.new.self c.clear-3.new.self.items) (sym c.clear.ensures.items)
    (subst (λ (ns : List ℕ). IsTied (record { first = 0; parts = [] }) c.clear-2.new.self ns) (sym c.clear-3.ensures.items) (tied_none c.clear-2.new.self c.clear-2.ensures))
