-- The reply, step by step.
use Rattle.std.proofs.Common.{◌≡◌, ℕ, List, length, map, Option, Some, None, refl, arith}
use Rattle.std.specs.Prelude.{option_map, option_and_then}
use Rattle.std.proofs.lemmas.Bool.{eq-eqb}
use Rattle.std.proofs.lemmas.List.{length-map}
use Rattle.resp_core.specs.Reply.{Reply}
use Rattle.cluster_slots.specs.Lists.{flatten}
use Rattle.cluster_slots.specs.declared.arg_pattern.MultiSlotArgPattern.{MultiSlotArgPattern}
use Rattle.redis_combiners.specs.AllItems.{all_items}
use Rattle.redis_combiners.specs.ByPlaces.{by_places}
use Rattle.redis_combiners.specs.KeyPlaces.{all_places}
use Rattle.redis_combiners.specs.Misfits.{first_misfit}
use Rattle.redis_combiners.specs.SortedArrays.{array_or_refusal, sorted_arrays}
use Rattle.redis_combiners.proofs.Misfits.{fitting_items, items_length}

-- the places of some lists: all in one list, and how many each has
pub record PlacesOfLists (o : Option (List (List ℕ))) (all counts : List ℕ) : Type 0 where
  pub lists : List (List ℕ)
  pub is : o ≡ Some lists
  pub all_are : all ≡ flatten lists
  pub counts_are : counts ≡ map length lists

pub places_of_lists : (o : Option (List (List ℕ))) (all counts : List ℕ) → Some all ≡ option_map flatten o → Some counts ≡ option_map (map length) o → PlacesOfLists o all counts
places_of_lists None all counts e f = absurd (cc)
places_of_lists (Some pss) all counts e f = record { lists = pss; is = refl; all_are = cc; counts_are = cc }

-- the last step, where the places are there and each reply fits
pub record LastStep (pattern : MultiSlotArgPattern) (rs : List Reply) (lists : List (List ℕ)) (all : List ℕ) : Type 0 where
  pub long : option_map length (all_items rs) ≡ Some (length all)
  pub is : sorted_arrays pattern rs lists ≡ array_or_refusal None (option_and_then (by_places all) (all_items rs))

pub last_step : (pattern : MultiSlotArgPattern) (rs : List Reply) (lists : List (List ℕ)) (all counts : List ℕ)
    → PlacesOfLists (all_places pattern lists) all counts → length rs ≡ length counts → first_misfit rs counts ≡ None
    → LastStep pattern rs lists all
last_step pattern rs lists all counts p n f = grind (arith, length-map, fitting_items, items_length, eq-eqb)
