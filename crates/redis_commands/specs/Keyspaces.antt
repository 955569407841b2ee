-- A keyspace whose keys are shared out among the primaries of a map, and what is measured of it.
use Rattle.std.specs.Prelude.{◌≡◌, pos, Ok, map, ◌≢◌, ◌⊎◌, ℕ, nat_le, Bool, true, false, cond, List, [], ◌∷◌, Option, Some, None, option_and_then, find, is_some, ◌&&◌, length, count_by}
use Rattle.std.specs.Str.{bytes_eq}
use Rattle.std.specs.List.{AllZip}
use Rattle.resp_core.specs.Answer.{Answer}
use Rattle.cluster_slots.specs.Address.{Address, same_address}
use Rattle.cluster_slots.specs.KeySlot.{key_slot}
use Rattle.cluster_map.specs.RangeMap.{RangeEntry, end_of, value_of, Ascends}
use Rattle.cluster_map.specs.ReplyNode.{IsCovered}
use Rattle.cluster_map.specs.SlotNodes.{SlotNodes}
use Rattle.redis_cluster.specs.Unsplit.{Keyspace}
use Rattle.resp_core.specs.Reply.{int, array, bulk, replies_of}

-- the primary of the entry, if the entry begins at the slot or before it
abbrev pub primary_from : ℕ → RangeEntry SlotNodes → Option Address
primary_from slot e = cond (nat_le e.0 slot) (Some (value_of e).primary) None

-- the primary of a slot: that of the first entry that ends at the slot or after it, if this holds the
-- slot
abbrev pub primary_of_slot : List (RangeEntry SlotNodes) → ℕ → Option Address
primary_of_slot entries slot =
    option_and_then (primary_from slot) (find (λ e. nat_le slot (end_of e)) entries)

abbrev pub is_it : Address → Option Address → Bool
is_it node None = false
is_it node (Some other) = same_address other node

-- whether the node is the primary of the slot
abbrev pub serves_slot : List (RangeEntry SlotNodes) → Address → ℕ → Bool
serves_slot entries node slot = is_it node (primary_of_slot entries slot)

module _ {C : Type 0} where
  -- the part of a keyspace whose keys have these slots
  abbrev pub part_in : (ℕ → Bool) → Keyspace C → Keyspace C
  part_in here keyspace = λ key. cond (here (key_slot key)) (keyspace key) None

  -- no slot has keys of both, and the third keyspace is the two together
  pub record ShareNoSlot (one other both : Keyspace C) : Type 0 where
    pub slots : (key next : List ℕ) → one key ≢ None → other next ≢ None → key_slot key ≢ key_slot next
    pub each : (key : List ℕ)
        → ((other key ≡ None) × (both key ≡ one key)) ⊎ ((one key ≡ None) × (both key ≡ other key))

  -- What is measured adds up: there is a measure of a keyspace with no key, and those of two
  -- keyspaces that share no slot make one of both together. It is a relation, so a keyspace may have
  -- many measures, as each list of its keys, or none, as a number of keys if these never end.
  pub record IsAdditive {X : Type 0} (Measures : Keyspace C → X → Type 0) (none : X) (join : X → X → X)
      : Type 0 where
    pub empty : (keyspace : Keyspace C) → ((key : List ℕ) → keyspace key ≡ None) → Measures keyspace none
    pub apart : (one other both : Keyspace C) (x y : X) → ShareNoSlot one other both → Measures one x
        → Measures other y → Measures both (join x y)

  -- each node measures what it has of the keyspace
  abbrev pub AreMeasures : {X : Type 0} → (Keyspace C → X → Type 0) → List (RangeEntry SlotNodes)
      → Keyspace C → List Address → List X → Type 0
  AreMeasures Measures entries keyspace nodes measures =
      AllZip (λ node x. Measures (part_in (serves_slot entries node) keyspace) x) nodes measures

  -- the entries are those of a map, which covers the slot of each key that is there
  pub record IsServed (entries : List (RangeEntry SlotNodes)) (keyspace : Keyspace C) : Type 0 where
    pub ascends : Ascends entries
    pub covered : (key : List ℕ) → keyspace key ≢ None → IsCovered entries (key_slot key)

-- what the measures make, from the last to the first
abbrev pub joined_measures : {X : Type 0} → X → (X → X → X) → List X → X
joined_measures none join [] = none
joined_measures none join (x ∷ xs) = join x (joined_measures none join xs)

-- The list has each key that is there and wanted once, and no other.
abbrev pub AreKeysOf : (List ℕ → Bool) → Keyspace (Unit {0}) → List (List ℕ) → Type 0
AreKeysOf wanted keyspace keys =
    (key : List ℕ) → count_by (bytes_eq key) keys ≡ cond (wanted key && is_some (keyspace key)) 1 0

-- the keyspace has so many keys
abbrev pub HasCount : Keyspace (Unit {0}) → ℕ → Type 0
HasCount keyspace count =
    (keys : List (List ℕ)) × AreKeysOf (λ key. true) keyspace keys × (length keys ≡ count)

-- what a node answers to `DBSIZE` that has so many keys
abbrev pub counted_answer : ℕ → Answer
counted_answer count = Ok (int (pos count))

-- what a node answers to `KEYS` that lists these keys
abbrev pub listed_answer : List (List ℕ) → Answer
listed_answer keys = Ok (array (replies_of (map bulk keys)))
