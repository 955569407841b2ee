-- Routes that have nodes, and the first one that has none.
use Rattle.std.proofs.Common.{◌≡◌, ◌+◌, ◌<◌, ℕ, zero, suc, List, [], ◌∷◌, ◌++◌, Option, None, Some, MatchOption, All, ap, arith, refl, sym, subst, ◌∙◌, length, map, take, drop, get_or}
use Rattle.std.specs.List.{AllZip}
use Rattle.std.specs.declared.alloc.Global.{Global}
use Rattle.std.specs.declared.vec.Vec.{Vec}
use Rattle.std.proofs.lemmas.List.{take-append-drop, drop_more, map-append}
use Rattle.std.proofs.lemmas.List.Elements.{All-map}
use Rattle.std.proofs.lemmas.Grind.{common_steps}
use Rattle.cluster_slots.specs.Address.{Address}
use Rattle.cluster_slots.specs.SlotRoute.{SlotRoute}
use Rattle.cluster_map.specs.SlotNodes.{SlotNodes}
use Rattle.cluster_map.specs.RangeMap.{RangeEntry, IsUncovered}
use Rattle.cluster_map.specs.Candidates.{Candidates}
use Rattle.cluster_map.specs.RouteNode.{IsNodeOfRoute, IsPickedNode}
use Rattle.cluster_map.specs.ReplyNode.{IsCovered}
use Rattle.redis_routing.specs.RoutingInfo.{route_lists}
use Rattle.redis_cluster.specs.Driven.{IsFirstUncovered}

module _ {S : Type 0} (strategy : Option S) (picks : S → Candidates → Address → Type 0) (entries : List (RangeEntry SlotNodes)) (pick : ℕ) where
  -- the address is that of a node of the route
  abbrev pub IsNode : SlotRoute × List ℕ → Address → Type 0
  IsNode route address = MatchOption strategy (IsNodeOfRoute entries route.0 pick address) (λ s. IsPickedNode (picks s) entries route.0 address)

-- A route that has a node is covered.
pub covered_by_node : {S : Type 0} (strategy : Option S) (picks : S → Candidates → Address → Type 0) (entries : List (RangeEntry SlotNodes)) (pick : ℕ) (route : SlotRoute × List ℕ) (address : Address) →
    IsNode strategy picks entries pick route address → IsCovered entries route.0.slot
covered_by_node None picks entries pick route address node = (node.0, node.1)
covered_by_node (Some s) picks entries pick route address node = (node.0, node.1)

-- Routes that have nodes are covered.
pub covered_by_nodes : {S : Type 0} (strategy : Option S) (picks : S → Candidates → Address → Type 0) (entries : List (RangeEntry SlotNodes)) (pick : ℕ) (routes : List (SlotRoute × List ℕ)) (nodes : List Address) →
    AllZip (IsNode strategy picks entries pick) routes nodes → All (λ r. IsCovered entries r.0.slot) routes
covered_by_nodes strategy picks entries pick [] nodes are k d l = absurd (omega arith)
covered_by_nodes strategy picks entries pick (route ∷ routes) [] are k d l = absurd are
covered_by_nodes strategy picks entries pick (route ∷ routes) (node ∷ nodes) are zero d l = covered_by_node strategy picks entries pick route node are.0
covered_by_nodes strategy picks entries pick (route ∷ routes) (node ∷ nodes) are (suc k) d l = covered_by_nodes strategy picks entries pick routes nodes are.1 k d (omega arith)

-- The routes without their places are the routes.
pub firsts-route_lists : (routes : List (SlotRoute × Vec ℕ Global)) → map (λ r. r.0) (route_lists routes) ≡ map (λ r. r.0) routes
firsts-route_lists [] = refl
firsts-route_lists (route ∷ routes) = ap (λ rs. route.0 ∷ rs) (firsts-route_lists routes)

-- One route more has its places at the end.
pub route_lists_more : (routes : List (SlotRoute × Vec ℕ Global)) (i : ℕ) (route : SlotRoute × Vec ℕ Global) → i < length routes → route ≡ get_or routes i route →
    route_lists (take (i + 1) routes) ≡ route_lists (take i routes) ++ (route.0, route.1.items) ∷ []
route_lists_more routes i route within is = grind (arith, common_steps)

-- The first route whose slot has no node, where all before it have one.
pub first_uncovered : (entries : List (RangeEntry SlotNodes)) (routes : List (SlotRoute × Vec ℕ Global)) (i : ℕ) (route : SlotRoute × Vec ℕ Global) → i < length routes → route ≡ get_or routes i route →
    All (λ r. IsCovered entries r.0.slot) (route_lists (take i routes)) → IsUncovered entries route.0.slot → IsFirstUncovered entries (map (λ r. r.0) routes) route.0.slot
first_uncovered entries routes i route within is covered uncovered = record {
  before = map (λ r. r.0) (take i routes);
  route = route.0;
  rest = map (λ r. r.0) (drop (i + 1) routes);
  routes_are =
      ap (map (λ r. r.0)) (sym (take-append-drop i routes) ∙ ap (λ rs. take i routes ++ rs) (drop_more routes i route within ∙ ap (λ z. z ∷ drop (i + 1) routes) (sym is)))
      ∙ map-append (λ r. r.0) (take i routes) (route ∷ drop (i + 1) routes);
  covered = subst (All (λ r. IsCovered entries r.slot)) (firsts-route_lists (take i routes)) (All-map (λ r. IsCovered entries r.slot) (λ r. r.0) (route_lists (take i routes)) covered);
  uncovered = uncovered;
  slot_is = refl;
}
