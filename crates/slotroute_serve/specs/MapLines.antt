-- What the leading lines make: the ranges of a slot map, and a registry of names.
use Rattle.std.specs.Prelude.{◌≡◌, ℕ, ◌+◌, List, [], Some, ◌∷◌, ◌++◌, length}
use Rattle.std.specs.List.{AllZip}
use Rattle.std.specs.Str.{IsUtf8}
use Rattle.cluster_map.specs.Address.{Address}
use Rattle.cluster_map.specs.AddressText.{IsAddressText}
use Rattle.cluster_map.specs.Number.{number_in}
use Rattle.cluster_map.specs.SlotNodes.{RangeNodes}
use Rattle.redis_routing.specs.Registry.{Registrations}
use Rattle.redis_bytes.specs.NameLines.{Registers}
use Rattle.slotroute_serve.specs.declared.input.LeadingLines.{LeadingLines}

-- the ranges, in the order of their lines, and the registered names
pub record Made : Type 0 where
  pub ranges : List RangeNodes
  pub registry : Registrations

-- what no line makes
abbrev pub nothing_made : Made
nothing_made = record { ranges = []; registry = [] }

-- what was made, as the program keeps it
abbrev pub made_in : LeadingLines → Made
made_in kept = record { ranges = kept.ranges.items; registry = kept.registry }

-- the field is UTF-8 and names the node's address
abbrev pub IsNodeField : List ℕ → Address → Type 0
IsNodeField field address = IsUtf8 field × IsAddressText field address.host address.port

-- the fields of a line of a range: a start, an end, the primary, and replicas
abbrev pub IsRangeLine : List (List ℕ) → RangeNodes → Type 0
IsRangeLine [] range = ⊥
IsRangeLine (start ∷ []) range = ⊥
IsRangeLine (start ∷ end ∷ []) range = ⊥
IsRangeLine (start ∷ end ∷ primary ∷ replicas) range =
    (number_in 16 start ≡ Some range.start) × (number_in 16 end ≡ Some range.end)
    × IsNodeField primary range.master × AllZip IsNodeField replicas range.replicas

-- a map line adds a range, or registers a name
pub data IsMapLine (fields : List (List ℕ)) (old new : Made) : Type 0 where
  range_line : (range : RangeNodes) → IsRangeLine fields range
      → new.ranges ≡ old.ranges ++ range ∷ [] → new.registry ≡ old.registry
      → IsMapLine fields old new
  multi_line : Registers fields old.registry new.registry → new.ranges ≡ old.ranges
      → IsMapLine fields old new

-- the lines are map lines, one after the other
abbrev pub AreMapLines : List (List (List ℕ)) → Made → Made → Type 0
AreMapLines [] old new = new ≡ old
AreMapLines (line ∷ lines) old new =
    (between : Made) × IsMapLine line old between × AreMapLines lines between new

-- the lines are map lines, and this is what they make
abbrev pub IsMap : List (List (List ℕ)) → Made → Type 0
IsMap lines made = AreMapLines lines nothing_made made

-- the line of this number, from 1 on, is the first that is not a map line after those before it
pub record IsFirstBadLine (lines : List (List (List ℕ))) (number : ℕ) : Type 0 where
  pub good : List (List (List ℕ))
  pub bad : List (List ℕ)
  pub later : List (List (List ℕ))
  pub split : lines ≡ good ++ bad ∷ later
  pub made : Made
  pub before : IsMap good made
  pub there : (next : Made) → ¬ (IsMapLine bad made next)
  pub counted : number ≡ length good + 1
