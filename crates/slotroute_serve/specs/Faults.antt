-- What a fault means for the input, and its line.
use Rattle.std.specs.Prelude.{◌≡◌, ◌≢◌, ℕ, List, None, codes, ⊤}
use Rattle.std.specs.declared.io.ErrorKind.{ErrorKind}
use Rattle.std.specs.declared.io.ErrorKind.TheVariants.{OutOfMemory}
use Rattle.redis_routing.specs.Registry.{Registrations}
use Rattle.slotroute_serve.specs.declared.refusal.CommandFault.{CommandFault}
use Rattle.slotroute_serve.specs.declared.refusal.CommandFault.TheVariants as command
use Rattle.slotroute_serve.specs.Lines.{after_lines, StopsInMap}
use Rattle.slotroute_serve.specs.MapLines.{IsFirstBadLine}
use Rattle.slotroute_serve.specs.Output.{usage_line, bad_map_line, not_multi_key_line, refused_line}
use Rattle.slotroute_serve.specs.Split.{split_routes}
use Rattle.slotroute_serve.specs.declared.fault.AnswerFault.{AnswerFault}
use Rattle.slotroute_serve.specs.declared.fault.AnswerFault.TheVariants as answer
use Rattle.slotroute_serve.specs.declared.fault.Fault.{Fault}
use Rattle.slotroute_serve.specs.declared.fault.Fault.TheVariants.{Usage, BadMapLine, NotMultiKey, Command, Memory, Input, Output as OutputFailed}
use Rattle.slotroute_serve.specs.declared.fault.MapFault.{MapFault}
use Rattle.slotroute_serve.specs.declared.fault.MapFault.TheVariants as map
use Rattle.slotroute_serve.specs.declared.fault.ReadFault.{ReadFault}
use Rattle.slotroute_serve.specs.declared.fault.ReadFault.TheVariants as read
use Rattle.slotroute_serve.specs.declared.fault.RunFault.{RunFault}
use Rattle.slotroute_serve.specs.declared.fault.RunFault.TheVariants as run

-- the line that reports a fault
abbrev pub fault_line : Fault → List ℕ
fault_line Usage = usage_line
fault_line (BadMapLine number) = bad_map_line number
fault_line NotMultiKey = not_multi_key_line
fault_line (Command number refusal) = refused_line number refusal
fault_line Memory = codes "slotroute: no memory\n"
fault_line Input = codes "slotroute: input failed\n"
fault_line OutputFailed = codes "slotroute: output failed\n"

-- what a fault needs besides the input: for Input a read that may fail, for OutputFailed a write
-- that may fail
abbrev pub IsCaused : Type 0 → Type 0 → Fault → Type 0
IsCaused reading writing Input = reading
IsCaused reading writing OutputFailed = writing
IsCaused reading writing other = ⊤

-- The program's fault for the fault of each stage.
abbrev pub fault_of_map : MapFault → Fault
fault_of_map (map.BadLine number) = BadMapLine number
fault_of_map map.Memory = Memory
fault_of_map map.Input = Input

abbrev pub fault_of_answer : AnswerFault → Fault
fault_of_answer answer.NotMultiKey = NotMultiKey
fault_of_answer answer.Memory = Memory

abbrev pub fault_of_run : RunFault → Fault
fault_of_run (run.Command number refusal) = Command number refusal
fault_of_run run.Memory = Memory
fault_of_run run.Input = Input
fault_of_run run.Output = OutputFailed

-- the fault of the map if a line cannot be read
abbrev pub map_unread : ReadFault → MapFault
map_unread read.Memory = map.Memory
map_unread read.Input = map.Input

-- the fault of a run if a line cannot be read
abbrev pub run_unread : ReadFault → RunFault
run_unread read.Memory = run.Memory
run_unread read.Input = run.Input

-- the fault of a run if the command of the line with this number is not run
abbrev pub fault_at_line : ℕ → CommandFault → RunFault
fault_at_line number (command.Refused refusal) = run.Command number refusal
fault_at_line number command.Memory = run.Memory

-- what an error of the reader becomes, by its kind: out of memory, or a failed input
pub record IsReaderFault (kind : ErrorKind) (fault : ReadFault) : Type 0 where
  pub memory : kind ≡ OutOfMemory → fault ≡ read.Memory
  pub input : kind ≢ OutOfMemory → fault ≡ read.Input

-- why there is no map of these leading lines: one of them is bad, or memory or the input failed
abbrev pub WhyNoMap : List (List (List ℕ)) → MapFault → Type 0
WhyNoMap lines (map.BadLine number) = IsFirstBadLine lines number
WhyNoMap lines trouble = ⊤

-- what is left of the input if there is no map
abbrev pub IsInputLeft : List ℕ → List ℕ → MapFault → Type 0
IsInputLeft input left (map.BadLine number) = left ≡ after_lines number input
IsInputLeft input left trouble = StopsInMap input left

-- why there are no lines for a command: it is no complete multi-key command, or memory ran out
abbrev pub WhyNoSplit : Registrations → List (List ℕ) → AnswerFault → Type 0
WhyNoSplit registered command answer.NotMultiKey = split_routes registered command ≡ None
WhyNoSplit registered command answer.Memory = ⊤
