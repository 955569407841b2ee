-- Lanes that have one open part.
use Rattle.std.proofs.Common.{true, false, Bool, inl, inr, ◌≡◌, ℕ, [], ◌∷◌, if◌then◌else◌}
use Rattle.session_core.specs.declared.lane_part.LanePart.{LanePart}
use Rattle.session_core.specs.declared.ordered_part.Status.{Status}
use Rattle.session_core.specs.declared.ordered_part.Status.TheVariants.{Waits, Asked, Settled, Unsent}
use Rattle.session_core.specs.Inner.Lane.{In, MayBecome}
use Rattle.session_core.specs.Inner.LaneForms.{part_lane}

in_one : (place x : ℕ) (b : Bool) → In place (if b then [] else x ∷ []) → x ≡ place
in_one place x true h = absurd h
in_one place x false h = elim h [ inl e ↦ e | inr not ↦ absurd not ]

in_other : (place x : ℕ) (b : Bool) → In place (if b then x ∷ [] else []) → x ≡ place
in_other place x true h = elim h [ inl e ↦ e | inr not ↦ absurd not ]
in_other place x false h = absurd h

-- only the part itself may get a status
pub part_place : (place : ℕ) (status : Status) (part : LanePart) → MayBecome place status (part_lane part) → part.place ≡ place
part_place place Waits part may = in_other place part.place part.is_asked may.0
part_place place (Asked link) part may = in_one place part.place part.is_asked may.0.0
part_place place Settled part may = in_other place part.place part.is_asked may.0
part_place place Unsent part may = in_one place part.place part.is_asked may
