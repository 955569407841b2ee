-- The two forms of a lane.
use Rattle.std.specs.Prelude.{if◌then◌else◌, [], ◌∷◌}
use Rattle.session_core.specs.declared.lane.LaneForm.{LaneForm}
use Rattle.session_core.specs.declared.lane.LaneForm.TheVariants.{One, Many}
use Rattle.session_core.specs.declared.lane_part.LanePart.{LanePart}
use Rattle.session_core.specs.Inner.Lane.{Lane}

-- the lane of the only open part of a slot
abbrev pub part_lane : LanePart → Lane
part_lane part = record {
  waiting = if part.is_asked then [] else part.place ∷ [];
  asked = if part.is_asked then part.place ∷ [] else [];
  settled_end = 0;
  link = part.link;
}

abbrev pub lane_in : LaneForm → Lane
lane_in (One part) = part_lane part
lane_in (Many queues) = queues.value
