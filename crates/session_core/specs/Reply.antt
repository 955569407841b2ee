-- Replies on a link: messages of version 2 of the protocol.
use Rattle.std.specs.Prelude.{◌≡◌, ◌≢◌, ◌<◌, ◌≤◌, ◌++◌, ◌⊎◌, ℕ, List, [], length, slice_get, Some}
use Rattle.resp.specs.Messages.{IsMessage, HasNoMessage, CanBeMessage}
use Rattle.resp.specs.Versions.{IsVersion2}
use Rattle.session_core.specs.declared.link.Wait.{Wait}
use Rattle.session_core.specs.declared.link.BreakCause.{BreakCause}
use Rattle.session_core.specs.declared.link.BreakCause.TheVariants.{Malformed, Stray, Early, TooLong}
use Rattle.session_core.specs.Channel.{Channel}

-- one message of version 2
abbrev pub IsReply : List ℕ → Type 0
IsReply reply = IsMessage reply × IsVersion2 reply

-- whatever follows these bytes, no reply stands at the front
abbrev pub BeginsNoReply : List ℕ → Type 0
BeginsNoReply bytes = (more reply rest : List ℕ) → IsReply reply → bytes ++ more ≡ reply ++ rest → ⊥

-- no message stands at the front yet, and some more bytes complete one
abbrev pub IsUnfinished : List ℕ → Type 0
IsUnfinished bytes = HasNoMessage bytes × CanBeMessage bytes

-- a message stands at the front
pub record BeginsWith (bytes message : List ℕ) : Type 0 where
  pub rest : List ℕ
  pub is : bytes ≡ message ++ rest

-- A message is longer than a reply may be, or it is not finished and is longer already.
abbrev pub IsTooLong : List ℕ → ℕ → Type 0
IsTooLong bytes most =
    ((message : List ℕ) × IsMessage message × BeginsWith bytes message × (most < length message))
    ⊎ (IsUnfinished bytes × (most < length bytes))

-- What came is for this request. It is the first that waits, and was written to its end before the
-- first of these bytes came.
pub record IsFor (c : Channel) (wait : Wait) : Type 0 where
  pub first : slice_get c.waits 0 ≡ Some wait
  pub count : ℕ
  pub before : slice_get c.written_before 0 ≡ Some count
  pub is : wait.end ≤ count

abbrev pub IsForSome : Channel → Type 0
IsForSome c = (wait : Wait) × IsFor c wait

-- Why nobody can take what came. One byte of it is enough to tell the second and the third.
abbrev pub IsCause : BreakCause → Channel → Type 0
IsCause Malformed c = IsForSome c × BeginsNoReply c.heard
-- Some byte has come, and nobody waits.
IsCause Stray c = (c.heard ≢ []) × (c.waits ≡ [])
-- A byte came before the request of the first that waits was written to its end.
IsCause Early c = (wait : Wait) × (count : ℕ) × (slice_get c.waits 0 ≡ Some wait)
    × (slice_get c.written_before 0 ≡ Some count) × (count < wait.end)
IsCause TooLong c = IsForSome c × IsTooLong c.heard c.most
