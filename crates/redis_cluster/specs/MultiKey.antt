-- A multi-key command as what it means: its name, its keys with what goes with each, and what
-- they share. Its slots, its routes and the part of each slot are read off that.
use Rattle.std.specs.Prelude.{◌≡◌, ◌-◌, ◌%◌, ◌/◌, ◌++◌, ◌∷◌, [], ℕ, Bool, ◌&&◌, List, Option, None, Some, cond, map, drop, filter, get_or, length, nat_eq, nat_lt, option_and_then, option_map, slice_get, take, unwrap_or}
use Rattle.std.specs.List.{All, flat_map}
use Rattle.std.specs.Option.{option_to_list}
use Rattle.std.specs.Simd.{first_chunks}
use Rattle.cluster_slots.specs.KeySlot.{key_slot}
use Rattle.cluster_slots.specs.SlotRoute.{SlotRoute}
use Rattle.cluster_slots.specs.declared.aggregate_op.AggregateOp.TheVariants.{Sum}
use Rattle.cluster_slots.specs.declared.arg_pattern.MultiSlotArgPattern.{MultiSlotArgPattern}
use Rattle.cluster_slots.specs.declared.arg_pattern.MultiSlotArgPattern.TheVariants.{KeysOnly, KeyValuePairs, KeysAndLastArg, KeyWithTwoArgTriples}
use Rattle.redis_routing.specs.Command.{Arguments, command_name}
use Rattle.redis_routing.specs.NameWords.{name_words_of}
use Rattle.redis_routing.specs.PresentArguments.{present_arguments}
use Rattle.redis_routing.specs.Registry.{Registered, Registrations}
use Rattle.redis_routing.specs.MultiKeyNames.{registered_as, split_of}
use Rattle.redis_routing.specs.declared.policy.ResponsePolicy.{ResponsePolicy}
use Rattle.redis_routing.specs.declared.policy.ResponsePolicy.TheVariants.{AllSucceeded, Aggregate, CombineArrays}
use Rattle.redis_routing.specs.Parts.{first_appearances}
use Rattle.redis_routing.specs.Routing.{nodes_for}

-- a key, and the arguments that go with it
pub record KeyTuple : Type 0 where
  pub key : List ℕ
  pub extras : List (List ℕ)

-- how the reply is made of what each tuple adds: a list of values, a count, or `OK`
pub data ReplyForm : Type 0 where
  list : ReplyForm
  count : ReplyForm
  okay : ReplyForm

-- the name in upper case, what it is registered with, unless it is one of the nine, the last argument
-- if all keys share it, the tuples in order, and the form of the reply
pub record MultiKey : Type 0 where
  pub name : List ℕ
  pub registered : Option Registered
  pub shared : Option (List ℕ)
  pub tuples : List KeyTuple
  pub form : ReplyForm

-- the form of the reply by the policy that joins the replies to parts; no other policy has one
abbrev pub form_by_policy : ResponsePolicy → Option ReplyForm
form_by_policy CombineArrays = Some list
form_by_policy (Aggregate Sum) = Some count
form_by_policy AllSucceeded = Some okay
form_by_policy _ = None

-- how many arguments a tuple has, its key among them, and how many at the end all tuples share
pub record Shape : Type 0 where
  pub width : ℕ
  pub shared : ℕ

abbrev pub shape_of : MultiSlotArgPattern → Shape
shape_of KeysOnly = record { width = 1; shared = 0 }
shape_of KeyValuePairs = record { width = 2; shared = 0 }
shape_of KeysAndLastArg = record { width = 1; shared = 1 }
shape_of KeyWithTwoArgTriples = record { width = 3; shared = 0 }

-- whether this many arguments are complete: without the shared ones they make whole tuples, and at
-- least one
abbrev pub is_whole : Shape → ℕ → Bool
is_whole shape len = nat_lt shape.shared len && nat_eq ((len - shape.shared) % shape.width) 0

-- the tuples of some arguments, one after the other, each by its arguments: the first is the key
abbrev pub tuples_by : Shape → List (List ℕ) → List KeyTuple
tuples_by shape args =
    map (λ t. record { key = get_or t 0 []; extras = drop 1 t })
    (first_chunks shape.width ((length args - shape.shared) / shape.width) args)

module _ (registered : Registrations) (name : List ℕ) (present : List (List ℕ)) where
  -- the command of a name with these arguments, if they are complete
  abbrev pub command_with : MultiSlotArgPattern → ReplyForm → Option MultiKey
  command_with pattern form =
      cond (is_whole (shape_of pattern) (length present))
      (Some (record {
        name = name;
        registered = registered_as registered name;
        shared = slice_get present (length present - (shape_of pattern).shared);
        tuples = tuples_by (shape_of pattern) present;
        form = form;
      })) None

-- A complete multi-key command. Its name is one of the nine or registered. The arguments after it,
-- up to the first gap, make whole tuples. If all keys share an argument, it is there.
abbrev pub multi_key : Registrations → Arguments → Option MultiKey
multi_key registered args =
    option_and_then (λ name. option_and_then (λ split.
    option_and_then (command_with registered name (present_arguments args) split.0)
    (form_by_policy split.1)) (split_of registered name)) (command_name args)

-- the tuples whose key has the slot, in their order
abbrev pub tuples_of_slot : ℕ → List KeyTuple → List KeyTuple
tuples_of_slot slot tuples = filter (λ t. nat_eq (key_slot t.key) slot) tuples

-- the part of a slot: the same command with that slot's tuples alone
abbrev pub part_of : MultiKey → ℕ → MultiKey
part_of command slot =
    record {
      name = command.name;
      registered = command.registered;
      shared = command.shared;
      tuples = tuples_of_slot slot command.tuples;
      form = command.form;
    }

-- the slots of its keys, each once, in the order of the first key of each
abbrev pub slots_in : MultiKey → List ℕ
slots_in command = first_appearances (map (λ t. key_slot t.key) command.tuples)

-- one route for each of its slots, to a replica too if the name only reads
abbrev pub command_routes : (List ℕ → Bool) → MultiKey → List SlotRoute
command_routes only_reads command =
    map (λ slot. record { slot = slot; addr = nodes_for (only_reads command.name) })
    (slots_in command)

-- the arguments of a slot's part: the name as the command spells it, the tuples of the slot, and
-- what all tuples share
abbrev pub part_args : Arguments → MultiKey → ℕ → Arguments
part_args args command slot =
    take (name_words_of args) args ++ map Some
    (flat_map (λ t. t.key ∷ t.extras) (tuples_of_slot slot command.tuples)
    ++ option_to_list command.shared)

-- the arguments of a slot's part of these arguments, if they are a multi-key command, else none
abbrev pub part_by_slot : Registrations → Arguments → ℕ → Arguments
part_by_slot registered args slot =
    unwrap_or (option_map (λ command. part_args args command slot) (multi_key registered args)) []

-- the arguments of the part of one slot: a complete multi-key command, all of that slot
pub record IsPart (registered : Registrations) (args : Arguments) : Type 0 where
  pub command : MultiKey
  pub command_is : multi_key registered args ≡ Some command
  pub slot : ℕ
  pub of_slot : All (λ t. key_slot t.key ≡ slot) command.tuples
