-- A multi-key command as it is taken apart.
use Rattle.std.specs.Prelude.{ℕ, List, Option, map, option_map, slice_get}
use Rattle.std.specs.declared.vec.Vec.{Vec}
use Rattle.std.specs.declared.alloc.Global.{Global}
use Rattle.cluster_slots.specs.declared.arg_pattern.MultiSlotArgPattern.{MultiSlotArgPattern}
use Rattle.redis_routing.specs.Tuples.{tuples_from}
use Rattle.redis_cluster.specs.MultiKey.{KeyTuple, MultiKey, ReplyForm, form_by_policy}
use Rattle.redis_cluster.specs.PlacedTuples.{unplaced}
use Rattle.redis_cluster.specs.Unsplit.{Act}
use Rattle.memory_nodes.specs.Cells.{Cell}
use Rattle.memory_nodes.specs.Steps.{step}
use Rattle.memory_nodes.specs.declared.name.Name.{Name}
use Rattle.memory_nodes.specs.declared.name.Name.TheVariants.{Given, Made}
use Rattle.memory_nodes.specs.declared.whole_command.WholeCommand.{WholeCommand}

-- a name as its bytes
abbrev pub name_bytes : Name → List ℕ
name_bytes (Given name) = name.now
name_bytes (Made name) = name.items

-- arguments as their bytes
abbrev pub words : List (Vec ℕ Global) → List (List ℕ)
words args = map (λ arg. arg.items) args

-- the tuples of arguments, none of which is shared
abbrev pub key_tuples : MultiSlotArgPattern → List (List ℕ) → List KeyTuple
key_tuples pattern args = map unplaced (tuples_from pattern 0 args)

-- the command that was taken apart, with a form of the reply
abbrev pub with_form : WholeCommand → ReplyForm → MultiKey
with_form whole form =
    record {
      name = whole.name.now;
      registered = whole.registered;
      shared = slice_get (words whole.shared.now) 0;
      tuples = key_tuples whole.pattern (words whole.tuples.now);
      form = form;
    }

-- the command that was taken apart, with the form of its policy
abbrev pub command_by : WholeCommand → Option MultiKey
command_by whole = option_map (with_form whole) (form_by_policy whole.policy)

-- what each tuple of the command does
abbrev pub act_on : WholeCommand → Act Cell
act_on whole =
    λ t. step whole.registered whole.name.now (slice_get (words whole.shared.now) 0) t.key
    t.extras
