-- Copies of routes.
use Rattle.std.proofs.Common.{◌≡◌, ℕ, ◌+◌, ◌<◌, List, [], ◌∷◌, ◌++◌, take, length, get_or, arith}
use Rattle.std.specs.declared.vec.Vec.{Vec}
use Rattle.std.specs.declared.alloc.Global.{Global}
use Rattle.std.proofs.lemmas.Grind.{common_steps}
use Rattle.cluster_slots.specs.SlotRoute.{SlotRoute}
use Rattle.redis_routing.specs.RoutingInfo.{route_lists}

-- a copy of one route more
pub one_more : (items copies : List (SlotRoute × Vec ℕ Global)) (i : ℕ) (item copy : SlotRoute × Vec ℕ Global) → route_lists copies ≡ route_lists (take i items) → i < length items → item ≡ get_or items i item → copy.0 ≡ item.0 → copy.1.items ≡ item.1.items → route_lists (copies ++ copy ∷ []) ≡ route_lists (take (i + 1) items)
one_more items copies i item copy before inside is route places = grind (arith, common_steps)
