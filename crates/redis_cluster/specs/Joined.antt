-- The one reply that is made of those to the parts of a multi-key command.
use Rattle.std.specs.Prelude.{◌≡◌, ◌++◌, ℕ, List, Some, Result, Ok, Err, map, length, ok_or, option_map, slice_get}
use Rattle.std.specs.List.{AllZip}
use Rattle.resp_core.specs.ErrorParts.{ErrorParts}
use Rattle.resp_core.specs.Reply.{Reply, array, array_of, int, replies_of}
use Rattle.resp_core.specs.View.{view}
use Rattle.resp_core.specs.declared.value.Value.{Value}
use Rattle.resp_core.specs.declared.error.ErrorKind.{ErrorKind}
use Rattle.resp_core.specs.declared.error.ErrorKind.TheVariants.{UnexpectedReturnType}
use Rattle.redis_combiners.specs.Aggregate.{sum_of}
use Rattle.redis_combiners.specs.Misfits.{first_misfit}
use Rattle.redis_routing.specs.Command.{Arguments}
use Rattle.redis_routing.specs.Registry.{Registrations}
use Rattle.redis_cluster.specs.MultiKey.{KeyTuple, MultiKey, ReplyForm, list, count, okay, multi_key, slots_in, tuples_of_slot}
use Rattle.redis_cluster.specs.Orders.{NamesOnce, in_order}
use Rattle.redis_cluster.specs.SlotItems.{items_of_slot}
use Rattle.redis_cluster.specs.declared.fault.DriveError.{DriveError}
use Rattle.redis_cluster.specs.declared.fault.DriveFault.TheVariants as fault

module _ (tuples : List KeyTuple) (slots : List ℕ) (replies : List Reply) where
  -- There is one value for each tuple. The reply to a slot's part is an array of the values of the
  -- slot's tuples, in their order.
  --
  -- `MGET a b {a}c`, replies [1, 3] to `MGET a {a}c` and [2] to `MGET b`: the values 1, 2, 3
  pub record AreMerged (values : List Reply) : Type 0 where
    pub each : length values ≡ length tuples
    pub of_slots : AllZip
        (λ slot reply. array_of reply ≡ Some (items_of_slot slot tuples values))
        slots replies

  -- What the replies make. A command for a list has the array of the values, one that counts the sum.
  -- One for `OK` has the reply to the first slot's part, whatever the others are. If they make none,
  -- it is the kind of the refusal.
  --
  -- `DEL a b`, replies 1 and 1: 2. `DEL a b`, replies 1 and nil: `UnexpectedReturnType`
  -- `MGET a b`, replies [1] and []: `Client`. `MSET a 1 b 2`, replies OK and 7: OK
  abbrev pub IsOutcome : ReplyForm → Result Reply ErrorKind → Type 0
  IsOutcome list (Ok value) =
      (values : List Reply) × AreMerged values × (value ≡ array (replies_of values))
  IsOutcome list (Err kind) =
      first_misfit replies (map (λ slot. length (tuples_of_slot slot tuples)) slots) ≡ Some kind
  IsOutcome count outcome = ok_or (option_map int (sum_of replies)) UnexpectedReturnType ≡ outcome
  IsOutcome okay outcome = slice_get (map Ok replies) 0 ≡ Some outcome

-- There is one reply for each slot, in the order of the slots. The order names each slot once. In
-- that order the nodes may have given them, after what they gave before.
pub record HaveReplied (registered : Registrations) (args : Arguments) (order : List ℕ)
    (old new : List Reply → Type 0) (command : MultiKey) (replies : List Reply) : Type 0 where
  pub command_is : multi_key registered args ≡ Some command
  pub order_is : NamesOnce (length (slots_in command)) order
  pub each : length replies ≡ length (slots_in command)
  pub gave : (before : List Reply) → old before → new (before ++ in_order replies order)

-- The outcome, a reply or the kind of a refusal, is what such replies make.
pub record IsJoined (registered : Registrations) (args : Arguments) (order : List ℕ)
    (old new : List Reply → Type 0) (outcome : Result Reply ErrorKind) : Type 0 where
  pub command : MultiKey
  pub replies : List Reply
  pub replied : HaveReplied registered args order old new command replies
  pub outcome_is : IsOutcome command.tuples (slots_in command) replies command.form outcome

-- What a call returned is what such replies make, if it is a reply or a refusal of the replies.
abbrev pub ReturnsJoined : Registrations → Arguments → List ℕ → (old new : List Reply → Type 0)
    → Result Value DriveError → Type 0
ReturnsJoined registered args order old new (Ok value) =
    IsJoined registered args order old new (Ok (view value))
ReturnsJoined registered args order old new (Err e) = (error : ErrorParts)
    → e.fault ≡ fault.Reply error → IsJoined registered args order old new (Err error.kind)
