-- What a client asks for, and what was sent of it.
use Rattle.std.specs.Prelude.{ℕ, List, [], Some, map}
use Rattle.cluster_map.specs.Address.{Address}
use Rattle.cluster_map.specs.RangeMap as ranges
use Rattle.cluster_map.specs.RouteNode.{IsNodeOfRoute}
use Rattle.cluster_map.specs.SlotNodes.{SlotNodes}
use Rattle.cluster_map.specs.SlotRoute.{SlotRoute}
use Rattle.redis_cluster.specs.Driven.{Request, request, IsDelivered}
use Rattle.redis_cluster.specs.Names.{names_of}
use Rattle.redis_cluster.specs.Registry.{Registrations}
use Rattle.redis_cluster.specs.Trace.{Entry}

module _ (slots : List (ranges.RangeEntry SlotNodes)) where
  -- the address is the primary of the route's slot
  abbrev pub IsPrimary : SlotRoute → Address → Type 0
  IsPrimary route address = IsNodeOfRoute slots route 0 address

module _ (slots : List (ranges.RangeEntry SlotNodes)) (registered : Registrations) where
  -- a command, with its parts in this order
  abbrev pub asked : (words : List (List ℕ)) (order : List ℕ) → Request
  asked words order = request (map Some words) (names_of [] registered) slots order

  -- each part of the command went once, in this order, to the primary of its slot, and was answered
  abbrev pub AreSentOnce : (words : List (List ℕ)) (order : List ℕ) (old new : List Entry) → Type 0
  AreSentOnce words order old new = IsDelivered (IsPrimary slots) (asked words order) old new
