-- The parts of a request, and what is reported of them.
use Rattle.std.specs.Prelude.{◌<◌, ◌⊎◌, ℕ, List, [], map, length}
use Rattle.cluster_slots.specs.SlotRoute.{SlotRoute}
use Rattle.redis_routing.specs.Names.{names_of}
use Rattle.redis_routing.specs.Split.{Split}
use Rattle.redis_bytes.specs.Replies.{AreCombined}
use Rattle.redis_bytes.specs.Requests.{IsSplitRequest, AreParts}
use Rattle.redis_bytes.specs.declared.splitting.Parts.{Parts}
use Rattle.slotroute_c.specs.declared.told.Told.{Told}
use Rattle.slotroute_c.specs.Fields.{with_sizes}
use Rattle.slotroute_c.specs.Named.{WithNames}

-- the slot of each route
abbrev pub route_slots : List SlotRoute → List ℕ
route_slots routes = map (λ route. route.slot) routes

-- the bytes are one request, split like this by the names that a text registers
abbrev pub IsSplitBy : List ℕ → List ℕ → Split → Type 0
IsSplitBy names request split =
    WithNames names (λ registered. IsSplitRequest (names_of [] registered) request split)

-- the bytes are one request, and these are its parts
abbrev pub ArePartsOfRequest : List ℕ → List ℕ → Parts → Type 0
ArePartsOfRequest names request parts =
    (split : Split) × IsSplitBy names request split × AreParts split parts

-- the bytes are the replies to the parts of a request, and make this one
abbrev pub IsReplyToRequest : (names request replies combined : List ℕ) → Type 0
IsReplyToRequest names request replies combined =
    (split : Split) × IsSplitBy names request split × AreCombined split replies combined

-- the number of parts and of bytes is reported
abbrev pub with_parts : Parts → Told → Told
with_parts parts told =
    with_sizes (length parts.routes.items) (length parts.bytes.items) told

-- one of the buffers, by their lengths, is too small
abbrev pub IsTooSmall : Parts → ℕ → ℕ → ℕ → Type 0
IsTooSmall parts slots ends out = (slots < length parts.routes.items)
    ⊎ (ends < length parts.ends.items) ⊎ (out < length parts.bytes.items)
