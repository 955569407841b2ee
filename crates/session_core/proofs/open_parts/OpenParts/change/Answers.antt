use Rattle.std.proofs.Common.{ℕ, sym, ap, ◌∙◌, subst}
use Rattle.session_core.specs.declared.part.PartOrder.{PartOrder}
use Rattle.session_core.specs.Inner.Lane.{with_status, MayBecome}
use Rattle.session_core.specs.Inner.Lone.{alone, with_lone, IsApart}
use Rattle.session_core.specs.Inner.Tied.{Lanes, lane_of, Stepped}
use Rattle.session_core.proofs.LoneParts.{lone_becomes, lone_stepped}
use Rattle.session_core.proofs.open_parts.OpenParts.change.Goals as goal

pub with_status-self-inside-requires : goal.with_status-self-inside-requires
with_status-self-inside-requires c =
    let view = sym (ap (λ o. with_lone o c.self.inside.lanes.entries) c.in-Some.is) ∙ c.self.view_is in
    (lone_becomes c.in-OfSlot.slot c.args.place c.args.status c.in-Some.lone (subst (λ (ls : Lanes). MayBecome c.args.place c.args.status (lane_of c.in-OfSlot.slot ls)) (sym view) (c.requires c.in-OfSlot.slot c.in-OfSlot.is))).2

pub returns-in-Some : goal.returns-in-Some
returns-in-Some c =
    let view = sym (ap (λ o. with_lone o c.self.inside.lanes.entries) c.in-Some.is) ∙ c.self.view_is in
    let b = lone_becomes c.in-OfSlot.slot c.args.place c.args.status c.in-Some.lone (subst (λ (ls : Lanes). MayBecome c.args.place c.args.status (lane_of c.in-OfSlot.slot ls)) (sym view) (c.requires c.in-OfSlot.slot c.in-OfSlot.is)) in
    let none = subst (λ o. IsApart o c.self.inside.lanes.entries) c.in-Some.is c.self.invariant in
    subst (λ (ls : Lanes). Stepped c.args.order (with_status c.args.place c.args.status) ls (with_lone c.with_status-self-inside.result c.self.inside.lanes.entries)) view
    (subst (λ (n : ℕ). Stepped c.args.order (with_status n c.args.status) (alone c.in-Some.lone) (with_lone c.with_status-self-inside.result c.self.inside.lanes.entries)) b.1
    (subst (λ (o : PartOrder). Stepped o (with_status c.in-Some.lone.part.place c.args.status) (alone c.in-Some.lone) (with_lone c.with_status-self-inside.result c.self.inside.lanes.entries)) (sym c.in-OfSlot.is)
    (lone_stepped c.in-OfSlot.slot c.args.status c.in-Some.lone c.with_status-self-inside.result c.self.inside.lanes.entries b.0 none c.with_status-self-inside.ensures.slot c.with_status-self-inside.ensures.some c.with_status-self-inside.ensures.none)))
