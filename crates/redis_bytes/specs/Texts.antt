-- What is printed of a fault.
use Rattle.std.specs.Prelude.{ℕ, List, ◌++◌, codes, decimal}
use Rattle.resp.specs.Texts as resp
use Rattle.redis_bytes.specs.declared.answers_fault.AnswersFault.{AnswersFault}
use Rattle.redis_bytes.specs.declared.answers_fault.AnswersFault.TheVariants as answers
use Rattle.redis_bytes.specs.declared.fault.BytesFault.{BytesFault}
use Rattle.redis_bytes.specs.declared.fault.BytesFault.TheVariants.{Memory, Request, AfterRequest, NotMultiKey, Reply, Error, AfterReplies, Unfit, LineFeedInHost, BadName}

abbrev pub bytes_fault_text : BytesFault → List ℕ
bytes_fault_text Memory = codes "out of memory"
bytes_fault_text (Request fault) = resp.request_fault_text fault
bytes_fault_text (AfterRequest end) =
    codes "bytes follow the request, from " ++ (decimal end ++ codes " on")
bytes_fault_text NotMultiKey = codes "not a multi-key command"
bytes_fault_text (Reply number fault) =
    codes "reply " ++ (decimal number ++ (codes ": " ++ resp.fault_text fault))
bytes_fault_text (Error number text) = codes "reply " ++ (decimal number ++ codes " is an error")
bytes_fault_text (AfterReplies end) =
    codes "bytes follow the replies, from " ++ (decimal end ++ codes " on")
bytes_fault_text (Unfit kind) = codes "the replies make no one reply"
bytes_fault_text LineFeedInHost = codes "a host has a line feed"
bytes_fault_text (BadName number) =
    codes "line " ++ (decimal number ++ codes " registers no name")

abbrev pub answers_fault_text : AnswersFault → List ℕ
answers_fault_text answers.Memory = codes "out of memory"
answers_fault_text (answers.Reply number fault) =
    codes "reply " ++ (decimal number ++ (codes ": " ++ resp.fault_text fault))
answers_fault_text (answers.AfterReplies end) =
    codes "bytes follow the replies, from " ++ (decimal end ++ codes " on")
answers_fault_text answers.NoForm = codes "the answers make no one reply"
