-- How a run of commands ends early.
use Rattle.std.proofs.Common.{◌≡◌, ℕ, Bool, List, [], ◌++◌, refl, take, ◌∷◌, arith}
use Rattle.std.specs.Prelude.{Option, Result, Ok, Err, IfErr, MatchResult}
use Rattle.std.specs.Result.{IsErrAnd}
use Rattle.std.specs.Io.BufRead.{DropsThrough}
use Rattle.std.specs.Io.KnownBytes.{Appends}
use Rattle.cluster_map.specs.RangeMap.{RangeEntry}
use Rattle.cluster_map.specs.SlotNodes.{SlotNodes}
use Rattle.redis_routing.specs.Registry.{Registrations}
use Rattle.memory_nodes.specs.Cells.{Cell}
use Rattle.redis_cluster.specs.Unsplit.{Keyspace}
use Rattle.slotroute_serve.specs.declared.direction.Direction.{Direction}
use Rattle.slotroute_serve.specs.declared.refusal.CommandFault.{CommandFault}
use Rattle.slotroute_serve.specs.declared.refusal.CommandFault.TheVariants as command
use Rattle.slotroute_serve.specs.Faults.{IsCaused, fault_at_line, fault_of_run, run_unread}
use Rattle.redis_bytes.specs.NameLines.{fields_of}
use Rattle.slotroute_serve.specs.RunFaults.{WhyNoText, RunEnds, RunStops}
use Rattle.slotroute_serve.specs.Runs.{no_keys, AreRun, StopsAfter}
use Rattle.slotroute_serve.specs.Streams.{Leaves}
use Rattle.slotroute_serve.specs.declared.fault.ReadFault.{ReadFault}
use Rattle.slotroute_serve.specs.declared.fault.ReadFault.TheVariants as read
use Rattle.slotroute_serve.specs.declared.fault.RunFault.{RunFault}
use Rattle.slotroute_serve.specs.declared.fault.RunFault.TheVariants as fault
use Rattle.slotroute_serve.proofs.Reading.{HasLine}
use Rattle.slotroute_serve.proofs.Running.{RunsOn, run_begun, stopped_before_line, stopped_after_line, refused_in_line, cut}
use Rattle.slotroute_serve.proofs.Writing.{grows}
use Rattle.std.proofs.KnownBytes.{Appends-nil}

-- a line that could not be read, where a read may fail for that of the input
pub unread_caused : (reads writes : Type 0) (r : Result (Unit {0}) RunFault) (unread : ReadFault) → IsErrAnd r (λ e. e ≡ run_unread unread) → (unread ≡ read.Input → reads) → IfErr r (λ e. IsCaused reads writes (fault_of_run e))
unread_caused reads writes r unread h1 h2 = grind (arith)

-- a command that is refused is no failure of a stream
pub refused_caused : (reads writes : Type 0) (number : ℕ) (e : CommandFault) → IsCaused reads writes (fault_of_run (fault_at_line number e))
refused_caused reads writes number (command.Refused refusal) = tt
refused_caused reads writes number command.Memory = tt

module _ (handed : Bool) (direction : Direction) (registered : Registrations) (entries : List (RangeEntry SlotNodes)) where
  pub stops_as : (first : ℕ) (input left out new : Option (List ℕ)) (e : RunFault) (r : Result (Unit {0}) RunFault) → RunStops handed direction registered entries first input left out new e → IsErrAnd r (λ x. x ≡ e)
      → MatchResult r (λ x. RunEnds handed direction registered entries input left out new) (RunStops handed direction registered entries first input left out new)
  stops_as first input left out new e (Ok x) h is = absurd is
  stops_as first input left out new e (Err x) h is = rw is h

  -- nothing was run yet
  pub not_begun : (first : ℕ) (input out : Option (List ℕ)) → RunStops handed direction registered entries first input input out out fault.Memory
  not_begun first input out = ([], Appends-nil out, stopped_before_line handed direction registered entries input input first first no_keys [] (run_begun handed direction registered entries input first))

  pub reader_stops : (first : ℕ) (unread : ReadFault) (input left out new : Option (List ℕ)) (text : List ℕ) (r : Result (Unit {0}) RunFault) → Appends out new text → Leaves input left (λ bytes rest. StopsAfter handed direction registered entries bytes rest text) → IsErrAnd r (λ e. e ≡ run_unread unread)
      → MatchResult r (λ x. RunEnds handed direction registered entries input left out new) (RunStops handed direction registered entries first input left out new)
  reader_stops first unread input left out new text r h1 h2 h3 = grind (arith)

  -- the command of a line had no text
  pub text_stops : (first number : ℕ) (input mid left out new : Option (List ℕ)) (keys : Keyspace Cell) (text line : List ℕ) (e : CommandFault) → Appends out new text → RunsOn handed direction registered entries input mid first number keys text → HasLine mid line → DropsThrough mid left 10
      → WhyNoText registered entries (fields_of line) e → RunStops handed direction registered entries first input left out new (fault_at_line number e)
  text_stops first number input mid left out new keys text line (command.Refused refusal) a on h d (some, why) = (text, a, refused_in_line handed direction registered entries input mid left first number number keys text line refusal on h d (refl, some, why))
  text_stops first number input mid left out new keys text line command.Memory a on h d why = (text, a, stopped_after_line handed direction registered entries input mid left first number keys text on d)

  -- the text of a line was not written whole
  pub emit_stops : (first number : ℕ) (input at left out mid new : Option (List ℕ)) (keys after : Keyspace Cell) (text more line : List ℕ) (k : ℕ) → Appends out mid text → RunsOn handed direction registered entries input at first number keys text → HasLine at line → AreRun handed direction registered entries (fields_of line ∷ []) keys after more → DropsThrough at left 10
      → Appends mid new (take k more) → RunStops handed direction registered entries first input left out new fault.Output
  emit_stops first number input at left out mid new keys after text more line k a on h run d part =
      (text ++ take k more, grows out mid new text (take k more) (text ++ take k more) a part refl, cut handed direction registered entries input at left first number keys after text more line (text ++ take k more) k on h run d refl)
