-- The lane of a slot that the map has.
use Rattle.std.proofs.Common.{◌≡◌, ℕ, Option, Some, sym, ap}
use Rattle.std.specs.Option.{unwrap_or}
use Rattle.std.specs.Ordering.{nat_cmp}
use Rattle.std.specs.BTreeMap.{BTreeMap, get}
use Rattle.session_core.specs.Inner.Lane.{Lane, no_lane}
use Rattle.session_core.specs.Inner.Tied.{lane_of}

lane_is : (slot : ℕ) (w : Option Lane) (lanes : BTreeMap ℕ Lane) → get nat_cmp lanes slot ≡ w → lane_of slot lanes.entries ≡ unwrap_or w no_lane
lane_is slot w lanes e = ap (λ o. unwrap_or o no_lane) e

pub lane_there : (slot : ℕ) (lanes : BTreeMap ℕ Lane) (l : Lane) → Some l ≡ get nat_cmp lanes slot → lane_of slot lanes.entries ≡ l
lane_there slot lanes l e = lane_is slot (Some l) lanes (sym e)
