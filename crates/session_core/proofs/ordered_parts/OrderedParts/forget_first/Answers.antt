use Rattle.std.proofs.Common.{◌+◌, List, sym, subst, arith}
use Rattle.session_core.specs.declared.ordered_part.OrderedPart.{OrderedPart}
use Rattle.session_core.specs.Inner.Tied.{IsTied, IsFirstOver}
use Rattle.session_core.proofs.Places.{at_within}
use Rattle.session_core.proofs.OrderTies.{tied_forgot}
use Rattle.session_core.proofs.ordered_parts.OrderedParts.forget_first.Goals as goal

pub overflow_add-self : goal.overflow_add-self
overflow_add-self c =
    let s = c.self.inside in
    let over : IsFirstOver (record { first = s.first; parts = s.parts.items }) = subst IsFirstOver (sym c.self.view_is) c.requires in
    let w = at_within s.first s.first s.parts.items over.0 over.1 in
    omega (arith, w.1, c.self.invariant.sorted.fits)

pub invariant_of-self : goal.invariant_of-self
invariant_of-self c =
    let s = c.self.inside in
    let over : IsFirstOver (record { first = s.first; parts = s.parts.items }) = subst IsFirstOver (sym c.self.view_is) c.requires in
    subst (λ (ps : List OrderedPart). IsTied (record { first = s.first + 1; parts = ps }) s.open_parts s.bars.items) (sym c.pop_front.ensures.rest)
    (tied_forgot (record { first = s.first; parts = s.parts.items }) s.open_parts s.bars.items over.0 c.self.invariant over.1 over.2)
