use Rattle.std.proofs.Common.{◌≡◌, ◌∙◌, ◌<◌, ℕ, Bool, false, List, ◌∷◌, nat_eq, ap, fold, sym, subst, map, length, get_or, arith}
use Rattle.std.proofs.lemmas.Grind.{common_steps}
use Rattle.std.specs.List.{list_any}
use Rattle.std.proofs.lemmas.Bool.{eqb-true}
use Rattle.std.proofs.lemmas.List.{get_or-replicate, get_or_default, length-replicate}
use Rattle.cluster_map.specs.RangeMap.{value_of}
use Rattle.cluster_map.proofs.Filling.{AllBelow, below-values}
use Rattle.cluster_map.proofs.Members.{add_by, added_once_by}
use Rattle.cluster_map.proofs.read_routing.cluster_topology.first_places.Goals as goal

pub returns : goal.returns
returns c =
    ap (λ rest. fold (add_by nat_eq) c.loop-place.places.items rest) (sym c.in-None.ensures.steps.0) ∙ c.loop-place.invariant.left
    ∙ added_once_by nat_eq eqb-true (map value_of c.args.ranges.now)

pub loop-place-init : goal.loop-place-init
loop-place-init c = grind (arith, common_steps, add_by, length-replicate, get_or-replicate, AllBelow, below-values)

-- the place that comes next is below the number, and so are those after it
below-next : (n : ℕ) (places rest : List ℕ) (place : ℕ) → places ≡ place ∷ rest → AllBelow n places → AllBelow n (place ∷ rest)
below-next n places rest place is below = subst (AllBelow n) is below

-- whether a place is listed, by its flag
listed-by : (flags : List Bool) (places : List ℕ) (place : ℕ) (flag : Bool) → place < length flags → flag ≡ get_or flags place flag → get_or flags place false ≡ list_any (nat_eq place) places → list_any (nat_eq place) places ≡ flag
listed-by flags places place flag within at is = sym is ∙ get_or_default flags place false flag within ∙ sym at

pub loop-place-preserved : goal.loop-place-preserved
loop-place-preserved c = grind (arith, below-next, listed-by, add_by)

pub index-requires : goal.index-requires
index-requires c = grind (arith, common_steps)

pub index_mut-requires : goal.index_mut-requires
index_mut-requires c = grind (arith, common_steps)
