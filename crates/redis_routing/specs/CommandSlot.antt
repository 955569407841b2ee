-- The slot that a command goes to, if it goes to a node of one slot.
use Rattle.std.specs.Prelude.{ℕ, ◌+◌, ◌-◌, ◌/◌, ◌%◌, List, [], Option, None, Some, codes, cond, get_or, length, map, max, nat_eq, nat_lt, option_and_then, option_map, position, take, ◌∷◌}
use Rattle.std.specs.Option.{option_or}
use Rattle.std.specs.Simd.{first_chunks}
use Rattle.cluster_slots.specs.KeySlot.{key_slot}
use Rattle.cluster_slots.specs.Number.{number_in}
use Rattle.cluster_slots.specs.declared.arg_pattern.MultiSlotArgPattern.{MultiSlotArgPattern}
use Rattle.cluster_slots.specs.declared.arg_pattern.MultiSlotArgPattern.TheVariants.{KeysOnly, KeyValuePairs, KeysAndLastArg, KeyWithTwoArgTriples}
use Rattle.redis_routing.specs.Command.{Arguments, argument, command_name, is_word}
use Rattle.redis_routing.specs.Lookup.{lookup_name}
use Rattle.redis_routing.specs.Parts.{first_appearances}
use Rattle.redis_routing.specs.PresentArguments.{present_arguments}
use Rattle.redis_routing.specs.Registry.{Registrations}
use Rattle.redis_routing.specs.RouteBy.{base_routing}
use Rattle.redis_routing.specs.declared.route_by.RouteBy.{RouteBy}
use Rattle.redis_routing.specs.declared.route_by.RouteBy.TheVariants.{MultiSlot, CountAt, KeyAt, KeyAfterStreams, SlotAt}

-- the first of each group of so many arguments, if these make whole groups
abbrev pub firsts_of : ℕ → List (List ℕ) → List (List ℕ)
firsts_of width args =
    cond (nat_eq (length args % width) 0)
    (map (λ group. get_or group 0 []) (first_chunks width (length args / width) args)) []

-- The keys among the arguments of a command over many keys, if these make whole tuples.
-- `JSON.MGET k` has the key `k`, though the path is missing.
abbrev pub command_keys : MultiSlotArgPattern → List (List ℕ) → List (List ℕ)
command_keys KeysOnly present = present
command_keys KeyValuePairs present = firsts_of 2 present
command_keys KeysAndLastArg present = take (max 1 (length present - 1)) present
command_keys KeyWithTwoArgTriples present = firsts_of 3 present

-- a number, if it is the only one
abbrev pub only_number : List ℕ → Option ℕ
only_number (number ∷ []) = Some number
only_number _ = None

-- The slot of a command by how its name is routed.
abbrev pub slot_by : Arguments → Option RouteBy → Option ℕ
slot_by args None = option_map key_slot (argument args 1)
slot_by args (Some (KeyAt n)) = option_map key_slot (argument args n)
slot_by args (Some (CountAt n)) =
    option_and_then (λ count. cond (nat_eq count 0) None (option_map key_slot (argument args (n + 1))))
    (option_and_then (number_in 64) (argument args n))
slot_by args (Some KeyAfterStreams) =
    option_and_then (λ place. option_map key_slot (argument args (place + 1)))
    (position (is_word (codes "STREAMS")) args)
slot_by args (Some (SlotAt n)) =
    option_and_then (λ slot. cond (nat_lt slot 16384) (Some slot) None)
    (option_and_then (number_in 16) (argument args n))
slot_by args (Some (MultiSlot pattern)) =
    only_number (first_appearances (map key_slot (command_keys pattern (present_arguments args))))
slot_by args _ = None

-- The slot that a command goes to, if it goes to a node of one slot.
--
-- `GET a` goes to the slot of `a`, `XREAD STREAMS a 0` too, and `CLUSTER COUNTKEYSINSLOT 7` to slot 7.
-- `MGET a {a}b` goes to the slot of `a`, and `MGET a b` to no single one. `PING` goes to none.
unfoldable pub command_slot : Registrations → Arguments → Option ℕ
command_slot registered args =
    option_and_then (λ name. slot_by args (option_or (base_routing name)
    (option_map (λ split. MultiSlot split.0) (lookup_name registered name)))) (command_name args)
