-- The replies to the parts of a request, as bytes, and the one reply.
use Rattle.std.specs.Prelude.{◌≡◌, ◌<◌, ◌≤◌, ◌⊎◌, ℕ, List, ◌++◌, Ok, Err, length}
use Rattle.resp_core.specs.Reply.{Reply}
use Rattle.resp.specs.Forms.{Answer, IsForm, InOrder, form, depth, HasForm}
use Rattle.resp.specs.Reading.{Cause}
use Rattle.resp.specs.declared.reading.TheConstants.{MAX_LEVELS}
use Rattle.resp.specs.declared.fault.ReadError.TheVariants as errors
use Rattle.redis_routing.specs.Names.{Names}
use Rattle.redis_routing.specs.Split.{Split}
use Rattle.redis_cluster.specs.Plan.{IsMadeOfParts}
use Rattle.redis_bytes.specs.declared.fault.BytesFault.{BytesFault}
use Rattle.redis_bytes.specs.declared.fault.BytesFault.TheVariants as faults
use Rattle.redis_bytes.specs.declared.fault.BytesFault.TheVariants.{Memory, Error, AfterReplies, Unfit}
use Rattle.redis_bytes.specs.Requests.{IsSplitRequest, IsUnsplit}

-- the bytes are a form of the reply, or of the error
abbrev pub IsAnswer : Answer → List ℕ → Type 0
IsAnswer answer bytes = IsForm MAX_LEVELS answer bytes

abbrev pub IsReply : Reply → List ℕ → Type 0
IsReply reply bytes = IsAnswer (Ok reply) bytes

-- the reply has a form, and is not too deep to be written
abbrev pub IsWritable : Reply → Type 0
IsWritable reply = HasForm reply × (depth reply ≤ MAX_LEVELS)

-- the bytes are forms of the replies, in their order
abbrev pub AreReplies : List Reply → List ℕ → Type 0
AreReplies replies bytes = InOrder IsReply replies bytes

-- the bytes begin with an error of this text
pub record BeginsError (bytes text : List ℕ) : Type 0 where
  pub form : List ℕ
  pub rest : List ℕ
  pub bytes_are : bytes ≡ form ++ rest
  pub is : IsAnswer (Err text) form

-- why the reply of this number, at the front of these bytes, is no value
abbrev pub IsNoValue : ℕ → List ℕ → BytesFault → Type 0
IsNoValue number bytes Memory = Unit {0}
IsNoValue number bytes (faults.Reply n fault) =
    (n ≡ number) × Cause bytes (errors.Fault fault)
IsNoValue number bytes (Error n text) = (n ≡ number) × BeginsError bytes text.items
IsNoValue number bytes _ = ⊥

-- Fewer than `count` items are at the front, and the next is not read, as `Why` says of its number and
-- of the bytes there.
pub record IsFirstUnread {Item : Type 0} (IsItem : Item → List ℕ → Type 0) (Why : ℕ → List ℕ → Type 0)
    (count : ℕ) (bytes : List ℕ) : Type 0 where
  pub items : List Item
  pub front : List ℕ
  pub rest : List ℕ
  pub bytes_are : bytes ≡ front ++ rest
  pub are : InOrder IsItem items front
  pub few : length items < count
  pub next : Why (length items) rest

-- `count` items are at the front and end at index `end`, and more bytes follow.
pub record AreFollowed {Item : Type 0} (IsItem : Item → List ℕ → Type 0) (count : ℕ) (bytes : List ℕ)
    (end : ℕ) : Type 0 where
  pub items : List Item
  pub front : List ℕ
  pub rest : List ℕ
  pub bytes_are : bytes ≡ front ++ rest
  pub are : InOrder IsItem items front
  pub all : length items ≡ count
  pub end_is : end ≡ length front
  pub more : 0 < length rest

-- why the bytes are not `count` replies
abbrev pub AreUnread : ℕ → List ℕ → BytesFault → Type 0
AreUnread count bytes Memory = Unit {0}
AreUnread count bytes (AfterReplies end) = AreFollowed IsReply count bytes end
AreUnread count bytes fault =
    IsFirstUnread IsReply (λ number rest. IsNoValue number rest fault) count bytes

-- The bytes are a reply to each part.
pub record PartsAreAnswered (split : Split) (bytes : List ℕ) (replies : List Reply) : Type 0 where
  pub all : length replies ≡ length split.routes
  pub are : AreReplies replies bytes

-- The replies to the parts make one reply, and `combined` is its form.
pub record AreCombined (split : Split) (bytes combined : List ℕ) : Type 0 where
  pub replies : List Reply
  pub answered : PartsAreAnswered split bytes replies
  pub one : Reply
  pub made : IsMadeOfParts split replies (Ok one)
  pub written : combined ≡ form one

-- why the replies to the parts make no one reply
abbrev pub IsUnjoined : Split → List ℕ → BytesFault → Type 0
IsUnjoined split bytes (Unfit kind) = (replies : List Reply) × PartsAreAnswered split bytes replies
    × IsMadeOfParts split replies (Err kind)
IsUnjoined split bytes fault = AreUnread (length split.routes) bytes fault

-- why replies to a request are not combined: the request is not split, or they are not joined
abbrev pub IsUncombined : Names → List ℕ → List ℕ → BytesFault → Type 0
IsUncombined names request replies fault = IsUnsplit names request fault
    ⊎ ((split : Split) × IsSplitRequest names request split × IsUnjoined split replies fault)
