-- One array of the items of several, by the number of the array that each item is in.
use Rattle.std.specs.Prelude.{◌≡◌, ◌<◌, ◌+◌, ℕ, List, [], map, length, get_or, slice_get, slice_index, slice_set, Some}
use Rattle.std.specs.List.{AllZip, slice_range}
use Rattle.resp_core.specs.Reply.{Reply, array, replies_of}
use Rattle.resp.specs.Forms.{form}
use Rattle.cluster_slots.specs.KeySlot.{key_slot}
use Rattle.redis_combiners.specs.ByPlaces.{items_of_index}
use Rattle.redis_routing.specs.Split.{Split, slots_of}
use Rattle.redis_cluster.specs.Plan.{tuples_in_split}
use Rattle.redis_bytes.specs.Replies.{AreReplies}

-- For each key the number of the part that has it: the number of the route to the key's slot.
--
-- `MGET a b {a}c`: 0, 1, 0
abbrev pub ArePlaces : Split → List ℕ → Type 0
ArePlaces split places = AllZip
    (λ place tuple. slice_get (slots_of split.routes) place ≡ Some (key_slot tuple.key))
    places (tuples_in_split split)

-- arrays of these items
abbrev pub arrays_of : List (List Reply) → List Reply
arrays_of lists = map (λ items. array (replies_of items)) lists

-- The bytes are `count` arrays, and `combined` is one array of all their items. Each place is the
-- number of the array that the item there is from. The items of one array keep their order.
pub record IsOneArray (count : ℕ) (places bytes combined : List ℕ) : Type 0 where
  pub lists : List (List Reply)
  pub all : length lists ≡ count
  pub are : AreReplies (arrays_of lists) bytes
  pub values : List Reply
  pub each : length values ≡ length places
  pub of_lists : (number : ℕ) → number < count
      → items_of_index number places values ≡ get_or lists number []
  pub written : combined ≡ form (array (replies_of values))

-- The bytes are `count` arrays. `texts` has the bytes of each item, one array after another. Those of
-- one array go from its start to its end.
pub record AreArrays (count : ℕ) (bytes : List ℕ) (texts : List (List ℕ)) (starts ends : List ℕ)
    : Type 0 where
  pub lists : List (List Reply)
  pub all : length lists ≡ count
  pub are : AreReplies (arrays_of lists) bytes
  pub items : List Reply
  pub texts_are : texts ≡ map form items
  pub as_many : length ends ≡ count
  pub each : (number : ℕ) → number < count → get_or lists number []
      ≡ slice_range items (slice_index starts number) (slice_index ends number)

-- The values are those between the start and the end of each array, at the places of its number.
pub record AreTaken (items : List Reply) (starts ends places : List ℕ) (values : List Reply)
    : Type 0 where
  pub each : length values ≡ length places
  pub of_arrays : (number : ℕ) → number < length ends → items_of_index number places values
      ≡ slice_range items (slice_index starts number) (slice_index ends number)

-- the bytes are the array of such values, if the texts are those of the items
abbrev pub IsMerged : List (List ℕ) → List ℕ → List ℕ → List ℕ → List ℕ → Type 0
IsMerged texts starts ends places bytes = (items : List Reply) → texts ≡ map form items
    → (values : List Reply) × AreTaken items starts ends places values
    × (bytes ≡ form (array (replies_of values)))

-- the text is the next of the array of this number, which is passed
pub record IsNext (texts : List (List ℕ)) (old new ends : List ℕ) (place : ℕ) (text : List ℕ)
    : Type 0 where
  pub within : place < length old
  pub before : slice_index old place < slice_index ends place
  pub at : slice_get texts (slice_index old place) ≡ Some text
  pub passed : new ≡ slice_set old place (slice_index old place + 1)
