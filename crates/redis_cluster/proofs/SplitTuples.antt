-- What a split command is by its tuples: each slot of a key has one route, whose list is the places of the slot's part.
use Rattle.std.proofs.Common.{◌≡◌, ℕ, ◌<◌, ◌≤◌, ◌^◌, List, [], None, length, map, refl, sym, ap, ◌∙◌, subst, arith}
use Rattle.std.specs.Prelude.{All, slice_get}
use Rattle.std.proofs.lemmas.List.{length-map}
use Rattle.redis_routing.specs.PresentArguments.{present_arguments}
use Rattle.cluster_slots.specs.KeySlot.{key_slot}
use Rattle.redis_routing.specs.Parts.{first_appearances}
use Rattle.redis_routing.specs.Tuples.{shared_in}
use Rattle.redis_routing.specs.Split.{Split, IsSplit, slots_of}
use Rattle.redis_cluster.specs.MultiKey.{KeyTuple, MultiKey, list, slots_in}
use Rattle.redis_cluster.specs.Orders.{times}
use Rattle.redis_cluster.specs.PlacedTuples.{tuples_of}
use Rattle.redis_cluster.proofs.Fold.{NamesSlots}
use Rattle.redis_cluster.proofs.SplitParts.{AreRoutesOf, HasTuples, are_routes_of}
use Rattle.redis_cluster.proofs.SplitPlaces.{few_present, parts_placed, places_of_part, tuples_few_present}
use Rattle.redis_cluster.proofs.Whole.{names_slots_from}
use Rattle.redis_cluster.specs.Plan.{tuples_in_split}

-- what is known of a split by its tuples
pub record IsSplitTo (split : Split) : Type 0 where
  pub named : NamesSlots (slots_of split.routes) (tuples_in_split split)
  pub placed : All (λ r. r.1 ≡ places_of_part split.pattern (tuples_in_split split) r.0.slot) split.routes
  pub apart : (n : ℕ) → times n (slots_of split.routes) ≤ 1
  pub some : 0 < length split.routes
  pub few : length (tuples_in_split split) < 2 ^ 63

module _ (split : Split) (held : IsSplit split) where
  abbrev present : List (List ℕ)
  present = present_arguments split.arguments

  -- its tuples, whatever the name is
  abbrev command : MultiKey
  command = record { name = []; registered = None; shared = slice_get (shared_in split.pattern present) 0; tuples = tuples_of split.pattern present; form = list }

  whole : HasTuples split.pattern present command
  whole = record { complete = held.complete; shared = refl; tuples = refl }

  routes_are : AreRoutesOf command split.routes
  routes_are = subst (AreRoutesOf command) (sym held.routes) (are_routes_of split.pattern present command whole held.is_read)

  pub is_split_to : IsSplitTo split
  is_split_to = record {
    named = names_slots_from (slots_of split.routes) (tuples_in_split split) routes_are.once;
    placed = subst (All (λ r. r.1 ≡ places_of_part split.pattern (tuples_in_split split) r.0.slot)) (sym held.routes) (parts_placed split.pattern present command whole held.is_read);
    apart = routes_are.at_most_once;
    some = routes_are.some;
    few = omega (arith, tuples_few_present split.pattern present command whole, few_present split.arguments, held.few);
  }

-- its routes are those of the slots of the command with these tuples
pub slots_of_split : (split : Split) → IsSplit split → (unsplit : MultiKey) → unsplit.tuples ≡ tuples_in_split split → slots_of split.routes ≡ slots_in unsplit
slots_of_split split held unsplit tuples = (routes_are split held).slots ∙ ap (λ ts. first_appearances (map (λ t. key_slot t.key) ts)) (sym tuples)

-- the slots share out the tuples: each tuple has one of them
pub record ShareOut (slots : List ℕ) (ts : List KeyTuple) : Type 0 where
  pub named : NamesSlots slots ts
  pub some : 0 < length slots
  pub few : length ts < 2 ^ 63

pub share_out : (split : Split) → IsSplit split → ShareOut (slots_of split.routes) (tuples_in_split split)
share_out split held =
    let to = is_split_to split held in
    record { named = to.named; some = omega (arith, to.some, length-map split.routes (λ r. r.0.slot)); few = to.few }

-- so do those of its command
pub command_shares : (split : Split) → IsSplit split → (unsplit : MultiKey) → unsplit.tuples ≡ tuples_in_split split → ShareOut (slots_in unsplit) unsplit.tuples
command_shares split held unsplit tuples = grind (arith, slots_of_split, share_out)
