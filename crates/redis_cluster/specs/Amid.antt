-- What a multi-key command replies and leaves on a real cluster. Other clients write the same keys
-- meanwhile, and replicas lag. Each node runs its part at one moment, on what it holds then.
use Rattle.std.specs.Prelude.{◌≡◌, ◌≢◌, ◌∷◌, [], ℕ, List, Some, map}
use Rattle.std.specs.List.{All}
use Rattle.resp_core.specs.Reply.{Reply}
use Rattle.cluster_slots.specs.KeySlot.{key_slot}
use Rattle.redis_routing.specs.Command.{Arguments}
use Rattle.redis_routing.specs.Registry.{Registrations}
use Rattle.redis_cluster.specs.MultiKey.{MultiKey, multi_key, part_by_slot, part_of, slots_in}
use Rattle.redis_cluster.specs.Joined.{HaveReplied}
use Rattle.redis_cluster.specs.Orders.{times}
use Rattle.redis_cluster.specs.Unsplit.{Step, Keyspace, keyspace_after, reply_to}

-- What each slot's node held when it ran the slot's part. Each slot has its own moment.
abbrev pub HeldBySlot : Type 0 → Type 0
HeldBySlot C = ℕ → Keyspace C

-- One keyspace has, at each key of the command, what the key's node held when it ran the key's
-- part.
--
-- `MGET a b` runs at `a` first, and another client's `MSET a 1 b 1` comes between the two parts:
--     the keyspace has the old `a` and the new `b`. No server ever held it.
-- The part of `a` goes to a replica that lags: the keyspace has the `a` of the replica.
-- `b` expires between the parts, and its part is the second: the keyspace has no `b`.
-- An importing node runs the part of `a` after `ASK`: the keyspace has the `a` of that node.
abbrev pub IsAssembled : {C : Type 0} → MultiKey → HeldBySlot C → Keyspace C → Type 0
IsAssembled command held one = All (λ t. one t.key ≡ held (key_slot t.key) t.key) command.tuples

-- the replies to the parts of a command, one for each slot, by what the slot's node held
--
-- `MGET a b`, if the node of `a` has 1 there and the node of `b` has nothing there:
--     the replies [1] and [nil]
abbrev pub replies_by : {C : Type 0} → Step C → MultiKey → HeldBySlot C → List Reply
replies_by step command held =
    map (λ slot. reply_to step (part_of command slot) (held slot)) (slots_in command)

-- Suppose each reply is what its part replies on what its node held. Then the value is the unsplit
-- command's reply on each keyspace assembled of that. So it is by any meaning of commands over these
-- cells.
--
-- `MGET a b` as above replies the old `a` and the new `b`.
-- `DEL a b` runs at `a` first, which is there, and another client deletes `b` between the parts:
--     the keyspace has no `b`, so the reply counts `a` alone.
abbrev pub IsReplyAmid : (C : Type 0) → MultiKey → List Reply → Reply → Type 0
IsReplyAmid C command replies value =
    (step : Step C) (held : HeldBySlot C) (one : Keyspace C) → IsAssembled command held one
    → replies ≡ replies_by step command held → value ≡ reply_to step command one

-- The nodes may have given one reply to each part. The value is the reply amid what others write, by
-- these.
pub record IsServedAmid (C : Type 0) (registered : Registrations) (args : Arguments)
    (order : List ℕ) (old new : List Reply → Type 0) (value : Reply) : Type 0 where
  pub command : MultiKey
  pub replies : List Reply
  pub replied : HaveReplied registered args order old new command replies
  pub reply : IsReplyAmid C command replies value

-- the keyspace after the parts of these slots, one after the other
abbrev pub after_parts : {C : Type 0} → Step C → MultiKey → List ℕ → Keyspace C → Keyspace C
after_parts step command [] keyspace = keyspace
after_parts step command (slot ∷ slots) keyspace =
    after_parts step command slots (keyspace_after step (part_of command slot) keyspace)

-- The part of a slot leaves at each key of the slot what the unsplit command leaves there, whatever
-- stands at other keys. It leaves the keys of other slots as they were. So if no key of the command
-- changes but by these parts, the keyspace at first is assembled: when a part runs, each of its
-- keys still has what stood there at first.
--
-- `MSET a 1 b 2`, and another client deletes `a` after the part of `a`: 1 is what the part left, and
--     what the unsplit command leaves. It need not be there at the return.
-- `MSET a 1 b 2`, and the node of `b` refuses: the part of `a` left 1, as the unsplit command does.
pub record ActsBySlot (C : Type 0) (command : MultiKey) : Type 0 where
  pub left : (step : Step C) (slot : ℕ) (held one : Keyspace C) (key : List ℕ) → key_slot key ≡ slot
      → one key ≡ held key
      → keyspace_after step (part_of command slot) held key ≡ keyspace_after step command one key
  pub apart : (step : Step C) (slot : ℕ) (held : Keyspace C) (key : List ℕ) → key_slot key ≢ slot
      → keyspace_after step (part_of command slot) held key ≡ held key
  pub undisturbed : (step : Step C) (first : Keyspace C) (before : ℕ → List ℕ)
      → ((slot : ℕ) → times slot (before slot) ≡ 0)
      → IsAssembled command (λ slot. after_parts step command (before slot) first) first

-- If the arguments are a multi-key command, what is sent for a slot means the slot's part, and the
-- command acts slot by slot.
pub record PartsActBySlot (C : Type 0) (registered : Registrations) (args : Arguments) : Type 0 where
  pub meant : (command : MultiKey) → multi_key registered args ≡ Some command
      → All (λ slot. multi_key registered (part_by_slot registered args slot)
      ≡ Some (part_of command slot)) (slots_in command)
  pub acts : (command : MultiKey) → multi_key registered args ≡ Some command → ActsBySlot C command
