-- Why a run of commands ends early.
use Rattle.std.specs.Prelude.{◌≢◌, ℕ, Bool, List, [], Option, ⊤}
use Rattle.std.specs.Io.KnownBytes.{Appends}
use Rattle.cluster_map.specs.RangeMap.{RangeEntry}
use Rattle.cluster_map.specs.SlotNodes.{SlotNodes}
use Rattle.redis_routing.specs.Registry.{Registrations}
use Rattle.slotroute_serve.specs.Commands.{IsRunRefused}
use Rattle.slotroute_serve.specs.declared.direction.Direction.{Direction}
use Rattle.slotroute_serve.specs.declared.refusal.CommandFault.{CommandFault}
use Rattle.slotroute_serve.specs.declared.refusal.CommandFault.TheVariants.{Refused, Memory as NoMemory}
use Rattle.slotroute_serve.specs.Runs.{AllRun, RefusedAt, StopsAfter, CutShort}
use Rattle.slotroute_serve.specs.Streams.{Leaves}
use Rattle.slotroute_serve.specs.declared.fault.RunFault.{RunFault}
use Rattle.slotroute_serve.specs.declared.fault.RunFault.TheVariants.{Command, Output as OutputFailed}

-- why a line with these fields has no text: its command is refused, or memory ran out
abbrev pub WhyNoText : Registrations → List (RangeEntry SlotNodes) → List (List ℕ) → CommandFault
    → Type 0
WhyNoText registered entries fields (Refused refusal) =
    (fields ≢ []) × IsRunRefused registered entries fields refusal
WhyNoText registered entries fields NoMemory = ⊤

module _ (handed : Bool) (direction : Direction) (registered : Registrations)
    (entries : List (RangeEntry SlotNodes)) (first : ℕ) where
  -- what was read and printed when a run ended with a fault; its first line has the number `first`
  abbrev pub WhyStopped : Option (List ℕ) → Option (List ℕ) → List ℕ → RunFault → Type 0
  WhyStopped input left text (Command number refusal) =
      Leaves input left
      (λ bytes rest. RefusedAt handed direction registered entries first bytes rest text number refusal)
  WhyStopped input left text OutputFailed =
      Leaves input left (λ bytes rest. CutShort handed direction registered entries bytes rest text)
  WhyStopped input left text trouble =
      Leaves input left (λ bytes rest. StopsAfter handed direction registered entries bytes rest text)

  -- a run that ended with a fault
  abbrev pub RunStops : Option (List ℕ) → Option (List ℕ) → Option (List ℕ) → Option (List ℕ)
      → RunFault → Type 0
  RunStops input left out_old out_new fault =
      (text : List ℕ) × Appends out_old out_new text × WhyStopped input left text fault

-- a run to the end of the input
abbrev pub RunEnds : Bool → Direction → Registrations → List (RangeEntry SlotNodes) → Option (List ℕ)
    → Option (List ℕ) → Option (List ℕ) → Option (List ℕ) → Type 0
RunEnds handed direction registered entries input left out_old out_new =
    (text : List ℕ) × Appends out_old out_new text
    × Leaves input left (λ bytes rest. AllRun handed direction registered entries bytes rest text)
