-- Single commands: their entries in a trace, and what they mean.
use Rattle.std.specs.Prelude.{◌≡◌, ℕ, List, Bool, cond, Option, None, Some, map, ⊤}
use Rattle.resp_core.specs.Reply.{Reply}
use Rattle.redis_routing.specs.Registry.{Registrations}
use Rattle.redis_cluster.specs.MultiKey.{MultiKey, multi_key}
use Rattle.redis_cluster.specs.Trace.{Entry, Ending, answered, refused, redirected, lost, entry}
use Rattle.redis_cluster.specs.Unsplit.{Step, Keyspace, keyspace_after, reply_to}
use Rattle.wire.specs.Replay.{replay, AreKept}
use Rattle.wire.specs.Said.{SendOutcome, Said, answer, refusal, redirection, loss}

-- the words of a command that was sent, and its reply
abbrev pub SaidCommand : Type 0
SaidCommand = Said (List (List ℕ)) Reply

-- the entry of it in a trace
abbrev pub outcome_ending : SendOutcome Reply → Ending
outcome_ending (answer reply) = answered
outcome_ending (refusal error) = refused error
outcome_ending (redirection redirect) = redirected redirect
outcome_ending (loss error) = lost error

abbrev pub entry_by : SaidCommand → Entry
entry_by s = entry s.node s.sent (outcome_ending s.outcome)

module _ {C : Type 0} (step : Step C) where
  -- the keyspace after a command that took effect
  abbrev pub after_effect : Option MultiKey → Keyspace C → Keyspace C
  after_effect None keyspace = keyspace
  after_effect (Some command) keyspace = keyspace_after step command keyspace

  -- One that was answered took effect. Of one that was not, the flag says whether it did.
  abbrev pub after_outcome : Bool → SendOutcome Reply → Option MultiKey → Keyspace C → Keyspace C
  after_outcome took (answer reply) command keyspace = after_effect command keyspace
  after_outcome took (refusal error) command keyspace =
      cond took (after_effect command keyspace) keyspace
  after_outcome took (redirection redirect) command keyspace =
      cond took (after_effect command keyspace) keyspace
  after_outcome took (loss error) command keyspace = cond took (after_effect command keyspace) keyspace

  -- a reply is the one that the keyspace gives
  abbrev pub IsAnswerKept : Option MultiKey → Reply → Keyspace C → Type 0
  IsAnswerKept None reply keyspace = ⊤
  IsAnswerKept (Some command) reply keyspace = reply ≡ reply_to step command keyspace

  -- and what was refused or redirected left the keyspace as it was
  abbrev pub IsKept : Bool → SendOutcome Reply → Option MultiKey → Keyspace C → Type 0
  IsKept took (answer reply) command keyspace = IsAnswerKept command reply keyspace
  IsKept took (refusal error) command keyspace =
      after_outcome took (refusal error) command keyspace ≡ keyspace
  IsKept took (redirection redirect) command keyspace =
      after_outcome took (redirection redirect) command keyspace ≡ keyspace
  IsKept took (loss error) command keyspace = ⊤

module _ {C : Type 0} (registered : Registrations) (step : Step C) where
  -- the keyspace after a command that was sent, with the flag of its send
  abbrev pub after_command : Bool → SaidCommand → Keyspace C → Keyspace C
  after_command took s keyspace =
      after_outcome step took s.outcome (multi_key registered (map Some s.sent)) keyspace

  -- and whether its outcome is one by the meaning
  abbrev pub IsCommandKept : Bool → SaidCommand → Keyspace C → Type 0
  IsCommandKept took s keyspace =
      IsKept step took s.outcome (multi_key registered (map Some s.sent)) keyspace

  -- the keyspace after all that was sent, with a flag for each send, by its number
  abbrev pub replay_commands : (ℕ → Bool) → List SaidCommand → Keyspace C → Keyspace C
  replay_commands took log keyspace = replay after_command took log keyspace

  abbrev pub AreCommandsKept : (ℕ → Bool) → List SaidCommand → Keyspace C → Type 0
  AreCommandsKept took log keyspace = AreKept after_command IsCommandKept took log keyspace
