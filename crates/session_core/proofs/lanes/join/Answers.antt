use Rattle.std.proofs.Common.{sym, ap, ◌∙◌, subst}
use Rattle.std.specs.BTreeMap.Entry.{entry_value}
use Rattle.session_core.specs.Inner.Lane.{MayJoin}
use Rattle.session_core.proofs.LaneMaps.{lane_there}
use Rattle.session_core.proofs.lanes.join.Goals as goal

pub join-requires : goal.join-requires
join-requires c =
    subst (MayJoin c.args.place) (lane_there c.args.slot c.args.lanes.now c.into_mut.result.now (sym c.into_mut.ensures.value ∙ ap entry_value (sym c.in-Occupied.is) ∙ c.in_ok-lane.ensures.value)) c.requires
