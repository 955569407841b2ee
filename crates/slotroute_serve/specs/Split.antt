-- What the program answers for a multi-key command.
use Rattle.std.specs.Prelude.{◌≡◌, ℕ, List, ◌∷◌, [], ◌++◌, if◌then◌else◌, Option, None, Some, MatchOption, codes, decimal, map, is_none}
use Rattle.std.specs.List.{AllZip, flat_map, list_any}
use Rattle.cluster_map.specs.Address.{Address, display_text}
use Rattle.cluster_map.specs.SlotNodes.{SlotNodes}
use Rattle.cluster_map.specs.RangeMap.{RangeEntry, IsUncovered}
use Rattle.cluster_map.specs.RouteNode.{IsNodeOfRoute}
use Rattle.cluster_map.specs.SlotRoute.{SlotRoute}
use Rattle.redis_routing.specs.Registry.{Registrations}
use Rattle.redis_cluster.specs.Command.{Arguments}
use Rattle.redis_cluster.specs.Complete.{multi_slot_routes, part_by_name}
use Rattle.slotroute_serve.specs.Commands.{names_with}
use Rattle.redis_bytes.specs.NameLines.{space}
use Rattle.redis_bytes.specs.Table.{line_feed}

-- the routes of the parts of a command with these words, if it is a complete multi-key command by
-- the tables or these registered names
abbrev pub split_routes : Registrations → List (List ℕ) → Option (List (SlotRoute × List ℕ))
split_routes registered words = multi_slot_routes (names_with registered) (map Some words)

-- what a line has of a part: its slot, its node, if there is one, and its words
pub record RoutedPart : Type 0 where
  pub slot : ℕ
  pub node : Option Address
  pub words : List (List ℕ)

-- a node as a line has it
abbrev pub node_text : Option Address → List ℕ
node_text None = codes "none"
node_text (Some address) = display_text address

-- the line: the slot, the node, and the words, each after one space
abbrev pub part_line : RoutedPart → List ℕ
part_line part =
    decimal part.slot ++ space ∷ node_text part.node
    ++ flat_map (λ word. space ∷ word) part.words ++ line_feed ∷ []

-- the part of a route by its slot, and the node of the route, or none if no range answers for the
-- slot
pub record IsRoutedPart (entries : List (RangeEntry SlotNodes)) (parts_by_slot : ℕ → Arguments)
    (route : SlotRoute) (part : RoutedPart) : Type 0 where
  pub slot : part.slot ≡ route.slot
  pub node : MatchOption part.node (IsUncovered entries route.slot) (IsNodeOfRoute entries route 0)
  pub words : map Some part.words ≡ parts_by_slot route.slot

-- 1 if a part has no node
abbrev pub split_status : List RoutedPart → ℕ
split_status parts = if list_any (λ part. is_none part.node) parts then 1 else 0

-- the text has a line for the part of each route, in order
pub record ArePartLines (entries : List (RangeEntry SlotNodes)) (parts_by_slot : ℕ → Arguments)
    (routes : List (SlotRoute × List ℕ)) (text : List ℕ) (status : ℕ) : Type 0 where
  pub parts : List RoutedPart
  pub each : AllZip (λ route. IsRoutedPart entries parts_by_slot route.0) routes parts
  pub lines : text ≡ flat_map part_line parts
  pub ended : status ≡ split_status parts

-- the lines and the status for a command: one line for the part of each of its routes
pub record IsSplitAnswer (registered : Registrations) (entries : List (RangeEntry SlotNodes))
    (command : List (List ℕ)) (text : List ℕ) (status : ℕ) : Type 0 where
  pub routes : List (SlotRoute × List ℕ)
  pub split : split_routes registered command ≡ Some routes
  pub answered : ArePartLines entries (part_by_name registered (map Some command)) routes text
      status
