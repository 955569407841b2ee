-- One array for the replies to the parts of a multi-key command, each item at the index of its key.
use Rattle.std.specs.Prelude.{ℕ, ◌==◌, List, length, map, Option, Some, None, Result, Ok, Err, option_and_then, if◌then◌else◌}
use Rattle.resp_core.specs.Reply.{Reply, array, replies_of}
use Rattle.resp_core.specs.declared.error.ErrorKind.{ErrorKind}
use Rattle.resp_core.specs.declared.error.ErrorKind.TheVariants.{Client}
use Rattle.cluster_slots.specs.Lists.{flatten}
use Rattle.cluster_slots.specs.declared.arg_pattern.MultiSlotArgPattern.{MultiSlotArgPattern}
use Rattle.redis_combiners.specs.AllItems.{all_items}
use Rattle.redis_combiners.specs.ByPlaces.{by_places}
use Rattle.redis_combiners.specs.KeyPlaces.{all_places}
use Rattle.redis_combiners.specs.Misfits.{first_misfit}

-- the array of the items; refused if a reply does not fit, and else if the items have no order
abbrev pub array_or_refusal : Option ErrorKind → Option (List Reply) → Result Reply ErrorKind
array_or_refusal (Some kind) items = Err kind
array_or_refusal None None = Err Client
array_or_refusal None (Some items) = Ok (array (replies_of items))

-- the items of the replies in the order of their keys; refused if a tuple is not whole, then if
-- there are not as many replies as lists
abbrev pub array_by_places : Option (List (List ℕ)) → List Reply → Result Reply ErrorKind
array_by_places None replies = Err Client
array_by_places (Some lists) replies =
    if length replies == length lists
    then array_or_refusal (first_misfit replies (map length lists))
    (option_and_then (by_places (flatten lists)) (all_items replies))
    else Err Client

-- the one array for the replies to parts with these lists of arguments, or the first refusal
abbrev pub sorted_arrays : MultiSlotArgPattern → List Reply → List (List ℕ) → Result Reply ErrorKind
sorted_arrays pattern replies lists = array_by_places (all_places pattern lists) replies
