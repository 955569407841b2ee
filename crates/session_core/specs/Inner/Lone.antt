-- The only open part of a caller that has a slot.
use Rattle.std.specs.Prelude.{◌≡◌, [], ◌∷◌, Option, None, Some}
use Rattle.session_core.specs.declared.lone_part.LonePart.{LonePart}
use Rattle.session_core.specs.Inner.LaneForms.{part_lane}
use Rattle.session_core.specs.Inner.Tied.{Lanes}

-- the lanes of slots, where no other one has a lane
abbrev pub alone : LonePart → Lanes
alone lone = (lone.slot, part_lane lone.part) ∷ []

-- these lanes, or those of a part that stands alone
abbrev pub with_lone : Option LonePart → Lanes → Lanes
with_lone None lanes = lanes
with_lone (Some lone) lanes = alone lone

-- If a part stands alone, there is no other lane.
abbrev pub IsApart : Option LonePart → Lanes → Type 0
IsApart None lanes = Unit {0}
IsApart (Some lone) lanes = lanes ≡ []
