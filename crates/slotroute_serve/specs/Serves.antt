-- What is in the streams after a run, and the status.
use Rattle.std.specs.Prelude.{◌≡◌, ◌⊎◌, ℕ, Bool, List, [], Option, take, ⊤}
use Rattle.std.specs.Io.KnownBytes.{Appends}
use Rattle.cluster_map.specs.SlotNodes.{insert_ranges}
use Rattle.slotroute_serve.specs.declared.direction.Direction.{Direction}
use Rattle.slotroute_serve.specs.Faults.{fault_line, IsCaused}
use Rattle.slotroute_serve.specs.Lines.{leading_lines, after_map, StopsInMap}
use Rattle.slotroute_serve.specs.MapLines.{Made, IsMap}
use Rattle.slotroute_serve.specs.Output.{Output, IsUsage, IsRunWords, usage_line, bad_map_line, not_multi_key_line, refused_line}
use Rattle.slotroute_serve.specs.Runs.{StopsAfter, CutShort}
use Rattle.slotroute_serve.specs.Streams.{Leaves}
use Rattle.slotroute_serve.specs.declared.fault.Fault.{Fault}
use Rattle.slotroute_serve.specs.declared.fault.Fault.TheVariants.{Usage, BadMapLine, NotMultiKey, Command, Memory, Output as OutputFailed}

-- text is the first bytes of an output that is called for, perhaps all of it
pub record BeginsOutput (handed : Bool) (words : List (List ℕ)) (input left text : List ℕ)
    : Type 0 where
  pub whole : List ℕ
  pub status : ℕ
  pub called_for : Output handed words input left whole [] status
  pub count : ℕ
  pub begins : text ≡ take count whole

-- the words and the input call for what is left, for what went to the two writers, and for the
-- status
pub record HasOutput (handed : Bool) (words : List (List ℕ))
    (input left out_old out_new err_old err_new : Option (List ℕ)) (status : ℕ) : Type 0 where
  pub outs : List ℕ
  pub errs : List ℕ
  pub written : Appends out_old out_new outs
  pub told : Appends err_old err_new errs
  pub called_for : Leaves input left (λ bytes rest. Output handed words bytes rest outs errs status)

-- the first commands of a run were run, and printed the text
pub record BeginsRun (handed : Bool) (direction : Direction) (input left text : List ℕ)
    : Type 0 where
  pub made : Made
  pub is_map : IsMap (leading_lines input) made
  pub stops : StopsAfter handed direction made.registry (insert_ranges [] made.ranges) (after_map input) left text

-- the text is what the first commands of a run printed, and the first bytes of what the next prints
pub record CutsRun (handed : Bool) (direction : Direction) (input left text : List ℕ) : Type 0 where
  pub made : Made
  pub is_map : IsMap (leading_lines input) made
  pub cut : CutShort handed direction made.registry (insert_ranges [] made.ranges) (after_map input) left text

-- the text of the commands that were run so far; empty except for `run`
abbrev pub IsSoFar : Bool → List (List ℕ) → Option (List ℕ) → Option (List ℕ) → List ℕ → Type 0
IsSoFar handed words input left text =
    (text ≡ [])
    ⊎ ((direction : Direction) × IsRunWords direction words
    × Leaves input left (λ bytes rest. BeginsRun handed direction bytes rest text))

-- the reading stopped in the map, before anything was written, or among the commands of a run
abbrev pub IsUnfinished : Bool → List (List ℕ) → Option (List ℕ) → Option (List ℕ) → List ℕ → Type 0
IsUnfinished handed words input left text =
    ((text ≡ []) × Leaves input left StopsInMap)
    ⊎ ((direction : Direction) × IsRunWords direction words
    × Leaves input left (λ bytes rest. BeginsRun handed direction bytes rest text))

-- the text is the first bytes of an answer, or of what the commands of a run print
abbrev pub IsOutputCut : Bool → List (List ℕ) → Option (List ℕ) → Option (List ℕ) → List ℕ → Type 0
IsOutputCut handed words input left text =
    Leaves input left (λ bytes rest. BeginsOutput handed words bytes rest text)
    ⊎ ((direction : Direction) × IsRunWords direction words
    × Leaves input left (λ bytes rest. CutsRun handed direction bytes rest text))

-- the fault's line has a number, which takes memory to write
abbrev pub IsNumbered : Fault → Type 0
IsNumbered (BadMapLine number) = ⊤
IsNumbered (Command number refusal) = ⊤
IsNumbered other = ⊥

-- the text is the line, or, if a write may fail, its first bytes
abbrev pub IsTold : Type 0 → List ℕ → List ℕ → Type 0
IsTold tells text line = (text ≡ line) ⊎ (tells × ((k : ℕ) × (text ≡ take k line)))

-- the text is the fault's line; instead of a line with a number it may be the line for Memory
abbrev pub TellsOf : Type 0 → List ℕ → Fault → Type 0
TellsOf tells text fault =
    IsTold tells text (fault_line fault)
    ⊎ (IsNumbered fault × IsTold tells text (fault_line Memory))

-- what was written and read before a fault, and what calls for it
abbrev pub Explains : Bool → List (List ℕ) → Option (List ℕ) → Option (List ℕ) → Option (List ℕ)
    → Option (List ℕ) → Fault → Type 0
Explains handed words input left out_old out_new Usage =
    Appends out_old out_new []
    × Leaves input left (λ bytes rest. Output handed words bytes rest [] usage_line 2)
Explains handed words input left out_old out_new (BadMapLine number) =
    Appends out_old out_new []
    × Leaves input left (λ bytes rest. Output handed words bytes rest [] (bad_map_line number) 2)
Explains handed words input left out_old out_new NotMultiKey =
    Appends out_old out_new []
    × Leaves input left (λ bytes rest. Output handed words bytes rest [] not_multi_key_line 2)
Explains handed words input left out_old out_new (Command number refusal) =
    (outs : List ℕ) × Appends out_old out_new outs × IsSoFar handed words input left outs
    × Leaves input left
    (λ bytes rest. Output handed words bytes rest outs (refused_line number refusal) 2)
Explains handed words input left out_old out_new OutputFailed =
    (outs : List ℕ) × Appends out_old out_new outs × IsOutputCut handed words input left outs
Explains handed words input left out_old out_new trouble =
    (outs : List ℕ) × Appends out_old out_new outs × IsUsage words
    × IsUnfinished handed words input left outs

-- a fault: what was read and written before it, and what was reported of it; `reads`, `writes` and
-- `tells` say whether such calls may fail
pub record HasFault (reads writes tells : Type 0) (handed : Bool) (words : List (List ℕ))
    (input left out_old out_new err_old err_new : Option (List ℕ)) (status : ℕ) : Type 0 where
  pub fault : Fault
  pub explained : Explains handed words input left out_old out_new fault
  pub caused : IsCaused reads writes fault
  pub errs : List ℕ
  pub told : Appends err_old err_new errs
  pub text : TellsOf tells errs fault
  pub failed : status ≡ 2

abbrev pub Serves : Type 0 → Type 0 → Type 0 → Bool → List (List ℕ)
    → Option (List ℕ) → Option (List ℕ)
    → Option (List ℕ) → Option (List ℕ) → Option (List ℕ) → Option (List ℕ) → ℕ → Type 0
Serves reads writes tells handed words input left out_old out_new err_old err_new status =
    HasOutput handed words input left out_old out_new err_old err_new status
    ⊎ HasFault reads writes tells handed words input left out_old out_new err_old err_new status

-- Memory ran out, and the line for that was written. Earlier commands of a run printed what they
-- print, and nothing else was written.
pub record RanOutOfMemory (handed : Bool) (words : List (List ℕ))
    (input left out_old out_new err_old err_new : Option (List ℕ)) (status : ℕ) : Type 0 where
  pub outs : List ℕ
  pub written : Appends out_old out_new outs
  pub so_far : IsSoFar handed words input left outs
  pub told : Appends err_old err_new (fault_line Memory)
  pub failed : status ≡ 2

-- an answer without a fault
abbrev pub HasAnswer : Bool → List (List ℕ) → Option (List ℕ) → Option (List ℕ) → Option (List ℕ)
    → Option (List ℕ) → ℕ → Type 0
HasAnswer handed words input left out_old out_new status =
    (outs : List ℕ) × Appends out_old out_new outs
    × Leaves input left (λ bytes rest. Output handed words bytes rest outs [] status)

-- the error stream grew by the report of the fault
abbrev pub Reports : Type 0 → Option (List ℕ) → Option (List ℕ) → Fault → Type 0
Reports tells err_old err_new fault =
    (errs : List ℕ) × Appends err_old err_new errs × TellsOf tells errs fault
