-- The index in the one array of each item of each reply.
use Rattle.std.specs.Prelude.{◌≡◌, ℕ, List, Option, Some, slice_get, option_and_then}
use Rattle.resp_core.specs.Reply.{Reply, array_of}
use Rattle.cluster_slots.specs.declared.arg_pattern.MultiSlotArgPattern.{MultiSlotArgPattern}
use Rattle.redis_combiners.specs.KeyPlaces.{places}

-- item j of a reply, if the reply is an array that has it
abbrev pub item_at : Reply → ℕ → Option Reply
item_at reply j = option_and_then (λ items. slice_get items j) (array_of reply)

-- the index in the one array of key j of a list, if the list has it
abbrev pub place_at : MultiSlotArgPattern → List ℕ → ℕ → Option ℕ
place_at pattern list j = option_and_then (λ all. slice_get all j) (places pattern list)

-- item j of reply i is in the whole at the index of key j of list i
abbrev pub AreAtPlaces : MultiSlotArgPattern → List Reply → List (List ℕ) → Reply → Type 0
AreAtPlaces pattern replies lists whole =
    (i j : ℕ) (reply : Reply) (list : List ℕ) (place : ℕ) → slice_get replies i ≡ Some reply
    → slice_get lists i ≡ Some list → place_at pattern list j ≡ Some place
    → item_at whole place ≡ item_at reply j
