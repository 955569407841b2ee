-- What a log says of a command that was driven over it on a real cluster. Other clients write the same
-- keys meanwhile, and replicas lag. Each node runs its part at the moment of the send, on what it
-- holds then. So moments are numbers of sends, counted from the beginning of the log.
use Rattle.std.specs.Prelude.{◌≡◌, ◌≤◌, ℕ, List, Some, map, length, slice_get}
use Rattle.std.specs.List.{All}
use Rattle.resp_core.specs.Reply.{Reply}
use Rattle.redis_routing.specs.Command.{Arguments}
use Rattle.redis_routing.specs.Registry.{Registrations}
use Rattle.redis_cluster.specs.MultiKey.{MultiKey, multi_key, part_of}
use Rattle.redis_cluster.specs.Unsplit.{Step, Keyspace, keyspace_after, reply_to}
use Rattle.wire.specs.Said.{answer}
use Rattle.wire.specs.Commands.{SaidCommand}

-- The send of this number was of this multi-key command, and this reply came.
pub record IsReplyAt (registered : Registrations) (log : List SaidCommand) (number : ℕ) (part : MultiKey)
    (reply : Reply) : Type 0 where
  pub said : SaidCommand
  pub said_is : slice_get log number ≡ Some said
  pub reply_is : said.outcome ≡ answer reply
  pub part_is : multi_key registered (map Some said.sent) ≡ Some part

module _ (registered : Registrations) (old new : List SaidCommand) where
  -- something holds of each such reply since the log was the old one
  abbrev pub OfEachReply : (ℕ → MultiKey → Reply → Type 0) → Type 0
  OfEachReply Holds = (number : ℕ) (part : MultiKey) (reply : Reply) → length old ≤ number
      → IsReplyAt registered new number part reply → Holds number part reply

  module _ {C : Type 0} (held : ℕ → Keyspace C) where
    -- One keyspace has, at each key of a send that was answered, what the key's node held at that send.
    --
    -- `MGET a b`, and another client's `MSET a 1 b 1` comes between send 0, of `MGET a`, and send 1,
    --     of `MGET b`: the keyspace has the old `a` and the new `b`. No server ever held it.
    abbrev pub IsAssembledAt : Keyspace C → Type 0
    IsAssembledAt one =
        OfEachReply (λ number part reply. All (λ t. one t.key ≡ held number t.key) part.tuples)

    -- Each reply is that of the part on what its node held at that send.
    abbrev pub AreRepliesBy : Step C → Type 0
    AreRepliesBy step = OfEachReply (λ number part reply. reply ≡ reply_to step part (held number))

    -- The keyspace has, at each key of a send that was answered, what the part leaves of what its node
    -- held.
    abbrev pub IsLeftAfter : Step C → Keyspace C → Type 0
    IsLeftAfter step one = OfEachReply (λ number part reply.
        All (λ t. one t.key ≡ keyspace_after step part (held number) t.key) part.tuples)

-- The command is complete. Take any meaning of commands, and any keyspace that is assembled of what
-- the nodes held at the sends by which the log grew. If each node replied by what it held, the
-- value is the reply of the unsplit command on that keyspace. What the unsplit command leaves there
-- is, at each key, what the part leaves of what its node held. What was sent, and where, is not
-- said here.
pub record IsServedAt (C : Type 0) (registered : Registrations) (args : Arguments)
    (old new : List SaidCommand) (value : Reply) : Type 0 where
  pub command : MultiKey
  pub command_is : multi_key registered args ≡ Some command
  pub reply : (step : Step C) (held : ℕ → Keyspace C) (one : Keyspace C)
      → IsAssembledAt registered old new held one → AreRepliesBy registered old new held step
      → value ≡ reply_to step command one
  pub left : (step : Step C) (held : ℕ → Keyspace C) (one : Keyspace C)
      → IsAssembledAt registered old new held one
      → IsLeftAfter registered old new held step (keyspace_after step command one)

-- A part leaves at each of its keys what the unsplit command leaves there, on any keyspace that has
-- at the key what the part's node held. So it does if another part is refused or lost.
--
-- `MSET a 1 b 2`, and the node of `b` refuses: the part of `a` left 1, as the unsplit command does.
-- `DEL a b`, and the reply to `DEL b` is lost: `DEL a` left nothing at `a`, as `DEL a b` does.
pub record LeavesAsUnsplit (C : Type 0) (command part : MultiKey) : Type 0 where
  pub slot : ℕ
  pub part_is : part ≡ part_of command slot
  pub left : (step : Step C) (held one : Keyspace C) → All (λ t. one t.key ≡ held t.key
      → keyspace_after step command one t.key ≡ keyspace_after step part held t.key) part.tuples
