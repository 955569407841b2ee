-- Lists of a map's nodes, which are empty only if the map is.
use Rattle.std.proofs.Common.{◌≡◌, ℕ, List, [], ◌∷◌, map, Bor, Option, None, Some, length, refl, ap, arith}
use Rattle.std.proofs.lemmas.Grind.{common_steps}
use Rattle.std.specs.Prelude.{cond, is_some, nat_lt, option_map, slice_get}
use Rattle.std.proofs.lemmas.Bool.{le-ltb, lt-ltb}
use Rattle.std.proofs.lemmas.Option.{slice_get_cases}
use Rattle.cluster_slots.specs.Address.{Address}
use Rattle.cluster_slots.specs.SlotRoute.{SlotRoute}
use Rattle.cluster_map.specs.EachOnce.{all_nodes_in, primaries_in}
use Rattle.cluster_map.specs.RangeMap.{RangeEntry, IsUncovered}
use Rattle.cluster_map.specs.SlotNodes.{SlotNodes}
use Rattle.cluster_map.specs.Targets.{addresses_behind}
use Rattle.redis_cluster.specs.Driven.{IsFirstUncovered}

-- a map without a primary is empty
pub no_primary : (entries : List (RangeEntry SlotNodes)) (nodes : List (Bor Address)) → addresses_behind nodes ≡ primaries_in entries → nodes ≡ [] → entries ≡ []
no_primary [] nodes is none = refl
no_primary (e ∷ es) nodes is none = absurd (cc (is, none))

-- a map without a node is empty
pub no_node : (entries : List (RangeEntry SlotNodes)) (nodes : List (Bor Address)) → addresses_behind nodes ≡ all_nodes_in entries → nodes ≡ [] → entries ≡ []
no_node [] nodes is none = refl
no_node (e ∷ es) nodes is none = absurd (cc (is, none))

-- the only route is the first one that has no node
pub only_uncovered : (entries : List (RangeEntry SlotNodes)) (route : SlotRoute) → IsUncovered entries route.slot → IsFirstUncovered entries (route ∷ []) route.slot
only_uncovered entries route uncovered = record {
  before = [];
  route = route;
  rest = [];
  routes_are = refl;
  covered = λ k d inside. absurd (omega (arith, inside));
  uncovered = uncovered;
  slot_is = refl;
}

-- the same for each of some references, and for each that they point to
pub same_for_each : {X : Type 0} (x : X) (nodes : List (Bor Address)) → map (λ node. x) nodes ≡ map (λ target. x) (addresses_behind nodes)
same_for_each x [] = refl
same_for_each x (node ∷ nodes) = ap (λ xs. x ∷ xs) (same_for_each x nodes)

-- the same for each, at a number
pub same_at : {X Y : Type 0} (x : X) (o : Option Y) → cond (is_some o) (Some x) None ≡ option_map (λ y. x) o
same_at x None = refl
same_at x (Some y) = refl

-- whether there is an element of this number
pub is_there : {X : Type 0} (xs : List X) (n : ℕ) → is_some (slice_get xs n) ≡ nat_lt n (length xs)
is_there xs n = grind (arith, common_steps, slice_get_cases, lt-ltb, le-ltb)
