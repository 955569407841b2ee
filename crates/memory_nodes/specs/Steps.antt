-- What each multi-key command does to the cell of a key and adds to the reply.
use Rattle.std.specs.Prelude.{ℕ, List, [], ◌∷◌, Bool, false, Option, None, Some, is_some, codes, slice_index_or}
use Rattle.std.specs.Option.{unwrap_or}
use Rattle.cluster_slots.specs.declared.aggregate_op.AggregateOp.TheVariants.{Sum}
use Rattle.cluster_slots.specs.declared.arg_pattern.MultiSlotArgPattern.{MultiSlotArgPattern}
use Rattle.cluster_slots.specs.declared.arg_pattern.MultiSlotArgPattern.TheVariants.{KeyValuePairs, KeysAndLastArg, KeyWithTwoArgTriples}
use Rattle.redis_routing.specs.Lookup.{lookup_name}
use Rattle.redis_routing.specs.Registry.{Registered}
use Rattle.redis_routing.specs.declared.policy.ResponsePolicy.{ResponsePolicy}
use Rattle.redis_routing.specs.declared.policy.ResponsePolicy.TheVariants.{AllSucceeded, Aggregate, CombineArrays}
use Rattle.resp_core.specs.Reply.{Reply, nil, bulk}
use Rattle.redis_cluster.specs.Unsplit.{Outcome, Step, put}
use Rattle.memory_nodes.specs.Cells.{Cell, value_at}
use Rattle.memory_nodes.specs.declared.action.Action.{Action}
use Rattle.memory_nodes.specs.declared.action.Action.TheVariants.{Read, ReadAtShared, Count, Remove, Leave, Write, WriteAtPath}

-- what each name does with a key
abbrev pub actions : List (List ℕ × Action)
actions =
    (codes "MGET", Read) ∷
    (codes "JSON.MGET", ReadAtShared) ∷
    (codes "EXISTS", Count) ∷
    (codes "TOUCH", Count) ∷
    (codes "DEL", Remove) ∷
    (codes "UNLINK", Remove) ∷
    (codes "WATCH", Leave) ∷
    (codes "MSET", Write) ∷
    (codes "JSON.MSET", WriteAtPath) ∷ []

-- any other name does nothing
abbrev pub action_of : List ℕ → Action
action_of name = unwrap_or (lookup_name actions name) Leave

-- A registered name does what a name of the tables with its policy does. CombineArrays reads, at
-- the path that the keys share, if any. Sum counts the keys that exist. AllSucceeded writes, if the
-- pattern has a value, or a path and a value, for each key.
abbrev pub registered_action : MultiSlotArgPattern → ResponsePolicy → Action
registered_action KeysAndLastArg CombineArrays = ReadAtShared
registered_action pattern CombineArrays = Read
registered_action pattern (Aggregate Sum) = Count
registered_action KeyValuePairs AllSucceeded = Write
registered_action KeyWithTwoArgTriples AllSucceeded = WriteAtPath
registered_action pattern policy = Leave

-- the action by what the name is registered with, or else by the name
abbrev pub action_by : Option Registered → List ℕ → Action
action_by None name = action_of name
action_by (Some registered) name = registered_action registered.0 registered.1

-- the value at a path as a reply
abbrev pub shown : Option (List ℕ) → Reply
shown None = nil
shown (Some value) = bulk value

-- one value at the empty path, and no other
abbrev pub single_value : List ℕ → Cell
single_value value = put [] (Some value) (λ path. None)

-- one value at a path, and the old values at other paths
abbrev pub written : List ℕ → List ℕ → Option Cell → Cell
written path value cell = put path (Some value) (value_at cell)

-- what is left in the cell, and a value for the reply
abbrev pub gives : Option Cell → Reply → Outcome Cell
gives cell value = record { cell = cell; result = record { value = value; counts = false } }

-- what is left in the cell, and whether the key counts
abbrev pub counted : Option Cell → Bool → Outcome Cell
counted cell counts = record { cell = cell; result = record { value = nil; counts = counts } }

-- an argument that goes with the key, by its index
abbrev pub extra : List (List ℕ) → ℕ → List ℕ
extra extras place = slice_index_or extras place []

-- what an action does to the cell of a key
abbrev pub act : Action → Option (List ℕ) → List (List ℕ) → Option Cell → Outcome Cell
act Read shared extras cell = gives cell (shown (value_at cell []))
act ReadAtShared shared extras cell = gives cell (shown (value_at cell (unwrap_or shared [])))
act Count shared extras cell = counted cell (is_some cell)
act Remove shared extras cell = counted None (is_some cell)
act Leave shared extras cell = counted cell false
act Write shared extras cell = counted (Some (single_value (extra extras 0))) false
act WriteAtPath shared extras cell =
    counted (Some (written (extra extras 0) (extra extras 1) cell)) false

-- what a key of a command does, by what the command's name is registered with, or by the name
abbrev pub step : Step Cell
step registered name shared key extras cell = act (action_by registered name) shared extras cell
