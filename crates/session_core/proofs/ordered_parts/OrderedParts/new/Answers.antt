use Rattle.std.proofs.Common.{sym, subst, List, [], ℕ}
use Rattle.session_core.specs.declared.ordered_part.OrderedPart.{OrderedPart}
use Rattle.session_core.specs.Inner.Tied.{IsTied}
use Rattle.session_core.proofs.OrderAsks.{tied_none}
use Rattle.session_core.proofs.ordered_parts.OrderedParts.new.Goals as goal

pub invariant_of-result : goal.invariant_of-result
invariant_of-result c =
    subst (λ (ps : List OrderedPart). IsTied (record { first = 0; parts = ps }) c.new-2.result c.new-3.result.items) (sym c.new.ensures.items)
    (subst (λ (ns : List ℕ). IsTied (record { first = 0; parts = [] }) c.new-2.result ns) (sym c.new-3.ensures.items) (tied_none c.new-2.result c.new-2.ensures))
