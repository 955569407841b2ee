-- What is tried for the routes of a command, each with its retry.
use Rattle.std.proofs.Common.{◌≡◌, ◌∙◌, ℕ, zero, suc, ◌+◌, arith, List, [], ◌∷◌, ◌++◌, Some, All, ap, sym, subst, rules, map, take, length}
use Rattle.std.proofs.lemmas.Grind.{common_steps}
use Rattle.std.specs.Prelude.{IsSome, slice_get}
use Rattle.std.specs.declared.alloc.Global.{Global}
use Rattle.std.specs.declared.vec.Vec.{Vec}
use Rattle.std.proofs.lemmas.List.{length-map}
use Rattle.std.proofs.lemmas.Slice.Zip.{all_zipped_more}
use Rattle.std.specs.List.{AllZip, zip}
use Rattle.std.proofs.lemmas.List.Elements.{All-cons, All-nil}
use Rattle.cluster_slots.specs.Address.{Address}
use Rattle.cluster_slots.specs.SlotRoute.{SlotRoute}
use Rattle.cluster_map.specs.SlotNodes.{SlotNodes}
use Rattle.cluster_map.specs.RangeMap as ranges
use Rattle.redis_cluster.specs.Driven.{Request}
use Rattle.redis_cluster.specs.Ready.{IsTarget, tries_with}
use Rattle.redis_cluster.specs.Retried.{IsTryOf}
use Rattle.redis_cluster.specs.Retry.{RetryState, IsRetryOf}
use Rattle.redis_routing.specs.RoutingInfo.{route_lists}
use Rattle.redis_cluster.specs.Plan.{Plan, IsRoutedPlan}
use Rattle.redis_cluster.proofs.Constructors.{none_apart, same_some}
use Rattle.redis_cluster.proofs.Covered.{firsts-route_lists}
use Rattle.redis_cluster.proofs.Zips.{zip_long}

pub each_try : (IsNode : SlotRoute → Address → Type 0) (r : Request) (retries : ℕ) (routes : List SlotRoute) (nodes : List Address) (parts : List (List (List ℕ))) (own : List RetryState) → AllZip (IsTarget IsNode r) routes (zip nodes parts)
    → AllZip (IsRetryOf r.map retries) (zip routes nodes) own → AllZip (IsTryOf IsNode retries r) routes (tries_with (zip nodes parts) own)
each_try IsNode r retries [] [] parts own each begun = tt
each_try IsNode r retries [] (n ∷ nodes) [] own each begun = tt
each_try IsNode r retries [] (n ∷ nodes) (p ∷ parts) own each begun = absurd each
each_try IsNode r retries (route ∷ routes) [] parts own each begun = absurd each
each_try IsNode r retries (route ∷ routes) (n ∷ nodes) [] own each begun = absurd each
each_try IsNode r retries (route ∷ routes) (n ∷ nodes) (p ∷ parts) [] each begun = absurd begun
each_try IsNode r retries (route ∷ routes) (n ∷ nodes) (p ∷ parts) (o ∷ own) each begun = grind (arith, common_steps, each_try IsNode r retries routes nodes parts own each.1 begun.1)

-- each retry names a target at first
pub each_named : (map : List (ranges.RangeEntry SlotNodes)) (retries : ℕ) (places : List (SlotRoute × Address)) (own : List RetryState) → AllZip (IsRetryOf map retries) places own → All (λ (retry : RetryState). IsSome retry.target) own
each_named map retries [] [] begun = All-nil (λ (retry : RetryState). IsSome retry.target)
each_named map retries [] (o ∷ own) begun = absurd begun
each_named map retries (p ∷ places) [] begun = absurd begun
each_named map retries (p ∷ places) (o ∷ own) begun = All-cons (λ (retry : RetryState). IsSome retry.target) o own (subst IsSome (sym begun.0.target) (search rules)) (each_named map retries places own begun.1)

-- what stands at a place of two lists beside each other
zip_there : {A B : Type 0} (xs : List A) (ys : List B) (k : ℕ) (x : A) (y : B) → slice_get xs k ≡ Some x → slice_get ys k ≡ Some y → slice_get (zip xs ys) k ≡ Some (x, y)
zip_there [] ys k x y a b = absurd (none_apart x a)
zip_there (u ∷ xs) [] k x y a b = absurd (none_apart y b)
zip_there (u ∷ xs) (v ∷ ys) zero x y a b = ap (λ w. Some (w, v)) (same_some u x a) ∙ ap (λ w. Some (x, w)) (same_some v y b)
zip_there (u ∷ xs) (v ∷ ys) (suc k) x y a b = zip_there xs ys k x y a b

take_there : {X : Type 0} (xs : List X) (k : ℕ) (x : X) → slice_get xs k ≡ Some x → take (suc k) xs ≡ take k xs ++ x ∷ []
take_there [] k x at = absurd (none_apart x at)
take_there (y ∷ xs) zero x at = ap (λ z. z ∷ []) (same_some y x at)
take_there (y ∷ xs) (suc k) x at = ap (λ zs. y ∷ zs) (take_there xs k x at)

get_map : {X Y : Type 0} (f : X → Y) (xs : List X) (k : ℕ) (x : X) → slice_get xs k ≡ Some x → slice_get (map f xs) k ≡ Some (f x)
get_map f [] k x at = absurd (none_apart x at)
get_map f (y ∷ xs) zero x at = ap (λ z. Some (f z)) (same_some y x at)
get_map f (y ∷ xs) (suc k) x at = get_map f xs k x at

-- one retry more
pub one_more : (entries : List (ranges.RangeEntry SlotNodes)) (retries : ℕ) (routes : List SlotRoute) (nodes : List Address) (own : List RetryState) (number : ℕ) (route : SlotRoute) (node : Address) (retry : RetryState)
    → AllZip (IsRetryOf entries retries) (take number (zip routes nodes)) own → slice_get routes number ≡ Some route → slice_get nodes number ≡ Some node → IsRetryOf entries retries (route, node) retry
    → AllZip (IsRetryOf entries retries) (take (number + 1) (zip routes nodes)) (own ++ retry ∷ [])
one_more entries retries routes nodes own number route node retry so_far at_route at_node begun = grind (arith, common_steps, take_there (zip routes nodes) number (route, node) (zip_there routes nodes number route node at_route at_node), zip_there routes nodes number route node at_route at_node, all_zipped_more (IsRetryOf entries retries) (take number (zip routes nodes)) own (route, node) retry so_far begun)

-- the route of a place, by the routes as they are held
pub route_at : (held : List (SlotRoute × Vec ℕ Global)) (routes : List (SlotRoute × List ℕ)) (number : ℕ) (found : SlotRoute × Vec ℕ Global) → route_lists held ≡ routes → slice_get held number ≡ Some found → slice_get (map (λ r. r.0) routes) number ≡ Some found.0
route_at held routes number found same at = grind (arith, firsts-route_lists, get_map)

-- the routes of a plan and its nodes beside each other are as many as the routes
pub as_many : (plan : Plan) → IsRoutedPlan plan → length (zip (map (λ r. r.0) plan.split.routes) plan.nodes) ≡ length plan.split.routes
as_many plan whole = zip_long (map (λ r. r.0) plan.split.routes) plan.nodes (length plan.split.routes) (length-map plan.split.routes (λ r. r.0)) whole.nodes
