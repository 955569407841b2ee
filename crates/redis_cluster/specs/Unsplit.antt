-- What a multi-key command does to a keyspace and answers if one server runs it whole: its tuples
-- one after the other, each on the cell of its own key.
use Rattle.std.specs.Prelude.{ℕ, pos, List, [], ◌∷◌, map, cond, Bool, Option, count_by}
use Rattle.std.specs.Str.{bytes_eq}
use Rattle.resp_core.specs.Reply.{Reply, int, array, replies_of}
use Rattle.resp_core.specs.Reply as reply
use Rattle.redis_routing.specs.Registry.{Registered}
use Rattle.redis_cluster.specs.MultiKey.{KeyTuple, MultiKey, ReplyForm, list, count, okay}

-- what a tuple adds to the reply: its value, and whether it counts
pub record TupleResult : Type 0 where
  pub value : Reply
  pub counts : Bool

-- what stands at the key after a tuple, and what the tuple adds to the reply
pub record Outcome (C : Type 0) : Type 0 where
  pub cell : Option C
  pub result : TupleResult

-- What a key of a command does. It goes by what the name is registered with, unless it is one of the
-- nine, the name, the argument that all keys share, the key, the arguments that go with it, and what
-- the key holds.
abbrev pub Step : Type 0 → Type 0
Step C = Option Registered → List ℕ → Option (List ℕ) → List ℕ → List (List ℕ) → Option C → Outcome C

-- what stands at each key
abbrev pub Keyspace : Type 0 → Type 0
Keyspace C = List ℕ → Option C

-- what the tuples of one command do
abbrev pub Act : Type 0 → Type 0
Act C = KeyTuple → Option C → Outcome C

module _ {C : Type 0} where
  -- the keyspace with another cell at one key
  abbrev pub put : List ℕ → Option C → Keyspace C → Keyspace C
  put key cell keyspace = λ other. cond (bytes_eq key other) cell (keyspace other)

  abbrev pub act_of : Step C → MultiKey → Act C
  act_of step command = λ t. step command.registered command.name command.shared t.key t.extras

module _ {C : Type 0} (act : Act C) where
  -- the keyspace after the tuples, one after the other
  abbrev pub after : List KeyTuple → Keyspace C → Keyspace C
  after [] keyspace = keyspace
  after (t ∷ ts) keyspace = after ts (put t.key (act t (keyspace t.key)).cell keyspace)

  -- what each adds to the reply, in order
  abbrev pub results : List KeyTuple → Keyspace C → List TupleResult
  results [] keyspace = []
  results (t ∷ ts) keyspace =
      (act t (keyspace t.key)).result ∷ results ts
      (put t.key (act t (keyspace t.key)).cell keyspace)

-- the reply: a list of the values, how many count, or `OK`
abbrev pub reply_by : ReplyForm → List TupleResult → Reply
reply_by list rs = array (replies_of (map (λ r. r.value) rs))
reply_by count rs = int (pos (count_by (λ r. r.counts) rs))
reply_by okay rs = reply.okay

module _ {C : Type 0} (step : Step C) (command : MultiKey) (keyspace : Keyspace C) where
  abbrev pub keyspace_after : Keyspace C
  keyspace_after = after (act_of step command) command.tuples keyspace

  abbrev pub results_of : List TupleResult
  results_of = results (act_of step command) command.tuples keyspace

  abbrev pub reply_to : Reply
  reply_to = reply_by command.form (results (act_of step command) command.tuples keyspace)
