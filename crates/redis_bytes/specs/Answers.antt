-- The answers of nodes as bytes: values, and errors with their texts.
use Rattle.std.specs.Prelude.{◌≡◌, ℕ, List, [], ◌++◌, Some, Ok, Err, map, unwrap_or}
use Rattle.std.specs.Str.Lossy.{utf8_lossy}
use Rattle.resp_core.specs.Answer.{Answer}
use Rattle.resp_core.specs.ErrorParts.{ErrorParts}
use Rattle.resp_core.specs.declared.error.ErrorKind.TheVariants.{InvalidClientConfig}
use Rattle.resp.specs.Forms as resp
use Rattle.resp.specs.Forms.{InOrder}
use Rattle.resp.specs.Reading.{Cause}
use Rattle.resp.specs.declared.fault.ReadError.TheVariants as errors
use Rattle.redis_bytes.specs.Replies.{AreFollowed, IsAnswer, IsFirstUnread}
use Rattle.redis_bytes.specs.declared.answers_fault.AnswersFault.{AnswersFault}
use Rattle.redis_bytes.specs.declared.answers_fault.AnswersFault.TheVariants.{AfterReplies, Memory, Reply}

-- an answer as it stands in bytes: a value, or the text of an error
abbrev pub WireAnswer : Type 0
WireAnswer = resp.Answer

-- the error of a text, with U+FFFD for what is not UTF-8; replies that make no one reply give an error
-- of another kind
abbrev pub error_of : List ℕ → ErrorParts
error_of text = record { kind = InvalidClientConfig; desc = []; detail = Some (utf8_lossy text) }

-- what a combiner takes of an answer
abbrev pub answer_of_wire : WireAnswer → Answer
answer_of_wire (Ok reply) = Ok reply
answer_of_wire (Err text) = Err (error_of text)

-- the text of a node's error
abbrev pub text_of : ErrorParts → List ℕ
text_of error = unwrap_or error.detail []

-- Answers are at the front, followed by `rest`, and a combiner takes `given` of them.
pub record StandAsAnswers (bytes rest : List ℕ) (given : List Answer) : Type 0 where
  pub said : List WireAnswer
  pub front : List ℕ
  pub bytes_are : bytes ≡ front ++ rest
  pub are : InOrder IsAnswer said front
  pub given_are : given ≡ map answer_of_wire said

-- why the answer of this number, at the front of these bytes, is not read
abbrev pub IsNoAnswer : ℕ → List ℕ → AnswersFault → Type 0
IsNoAnswer number bytes Memory = Unit {0}
IsNoAnswer number bytes (Reply n fault) = (n ≡ number) × Cause bytes (errors.Fault fault)
IsNoAnswer number bytes _ = ⊥

-- why the bytes are not `count` answers
abbrev pub AreUnreadAnswers : ℕ → List ℕ → AnswersFault → Type 0
AreUnreadAnswers count bytes Memory = Unit {0}
AreUnreadAnswers count bytes (AfterReplies end) = AreFollowed IsAnswer count bytes end
AreUnreadAnswers count bytes fault =
    IsFirstUnread IsAnswer (λ number rest. IsNoAnswer number rest fault) count bytes
