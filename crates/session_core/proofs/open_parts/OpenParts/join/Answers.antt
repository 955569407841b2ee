use Rattle.std.proofs.Common.{sym, ap, ◌∙◌, subst}
use Rattle.session_core.specs.Inner.Lane.{MayJoin}
use Rattle.session_core.specs.Inner.Lone.{with_lone}
use Rattle.session_core.specs.Inner.Tied.{lane_of}
use Rattle.session_core.proofs.open_parts.OpenParts.join.Goals as goal

pub join-requires : goal.join-requires
join-requires c =
    let entered = ap (λ o. lane_of c.in-OfSlot.slot (with_lone o c.enter_lanes.new.lanes.entries)) (sym c.in_ok-enter_lanes.ensures.entered) in
    let same = entered ∙ c.enter_lanes.ensures.same c.in-OfSlot.slot ∙ ap (lane_of c.in-OfSlot.slot) c.self.view_is in
    subst (MayJoin c.args.place) (sym same) (c.requires c.in-OfSlot.slot c.in-OfSlot.is)
