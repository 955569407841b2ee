-- What the words and the input call for.
use Rattle.std.proofs.Common.{◌≡◌, ◌≢◌, ◌≤◌, ℕ, Bool, true, false, if◌then◌else◌, arith, is_none, map, string_bytes, Bor, String, Global, Vec, append_assoc, decimal, List, [], ◌∷◌, ◌++◌, refl, subst, take, inl, inr, ◌⊎◌}
use Rattle.std.specs.Prelude.{Option, Some, None, Result, Ok, Err, OnOk, OnErr, IfSome, MatchResult, codes, ⊤}
use Rattle.std.specs.List.{list_any}
use Rattle.std.specs.Result.{IsErrAnd}
use Rattle.std.specs.Io.KnownBytes.{Appends}
use Rattle.cluster_map.specs.Address.{Address, display_text}
use Rattle.cluster_map.specs.KeySlot.{IsKeySlot}
use Rattle.cluster_map.specs.SlotNodes.{SlotNodes, insert_ranges}
use Rattle.cluster_map.specs.RangeMap.{RangeEntry, IsUncovered}
use Rattle.cluster_map.specs.RouteNode.{IsNodeFor, IsNodeOfRoute}
use Rattle.cluster_map.specs.SlotRoute.{SlotRoute}
use Rattle.redis_routing.specs.Registry.{Registrations}
use Rattle.cluster_slots.specs.declared.slot.SlotAddr.{SlotAddr}
use Rattle.cluster_slots.specs.declared.slot.SlotAddr.TheVariants.{Master}
use Rattle.slotroute_serve.specs.Lines.{leading_lines, after_map}
use Rattle.slotroute_serve.specs.MapLines.{Made, IsMap}
use Rattle.slotroute_serve.specs.Faults.{fault_line, fault_of_map, fault_of_answer, fault_of_run, WhyNoMap, WhyNoSplit, IsCaused, IsInputLeft}
use Rattle.slotroute_serve.specs.Output.{Output, first_after_map, IsNodeOrSplit, IsNodeAnswer, IsUsage, split_words, slot_line, usage_line, bad_map_line, not_multi_key_line, IsRunWords, refused_line, usage, bad_map, not_multi_key, answer, run_to_end, run_refused, served, unserved, node_request, split_request, run_request, node_answer, split_answer}
use Rattle.slotroute_serve.specs.Requests.{Asks, AsksFor, WhyNoAnswer}
use Rattle.slotroute_serve.specs.RunFaults.{RunEnds, RunStops}
use Rattle.slotroute_serve.specs.Runs.{RefusedAt}
use Rattle.slotroute_serve.specs.Split.{IsSplitAnswer}
use Rattle.slotroute_serve.specs.Serves.{IsSoFar, IsUnfinished, HasAnswer, HasOutput, RanOutOfMemory, Explains, IsNumbered, IsTold, TellsOf, Reports, Serves}
use Rattle.slotroute_serve.specs.Streams.{Leaves}
use Rattle.slotroute_serve.proofs.Leaving.{left_after_map}
use Rattle.slotroute_serve.specs.declared.fault.AnswerFault.{AnswerFault}
use Rattle.slotroute_serve.specs.declared.fault.AnswerFault.TheVariants as answer_fault
use Rattle.slotroute_serve.specs.declared.fault.Fault.{Fault}
use Rattle.slotroute_serve.specs.declared.fault.Fault.TheVariants as fault
use Rattle.slotroute_serve.specs.declared.fault.MapFault.{MapFault}
use Rattle.slotroute_serve.specs.declared.fault.MapFault.TheVariants as map_fault
use Rattle.slotroute_serve.specs.declared.fault.RunFault.{RunFault}
use Rattle.slotroute_serve.specs.declared.fault.RunFault.TheVariants as run_fault
use Rattle.slotroute_serve.specs.declared.request.Question.{Question}
use Rattle.slotroute_serve.specs.declared.request.Question.TheVariants.{Node, Split}
use Rattle.slotroute_serve.specs.declared.request.Request.{Request}
use Rattle.slotroute_serve.specs.declared.request.Request.TheVariants as request
use Rattle.slotroute_serve.specs.declared.direction.Direction.{Direction}
use Rattle.slotroute_serve.proofs.Running.{after_the_map, begins_at_refused}
use Rattle.std.proofs.KnownBytes.{Appends-nil}

-- The line of an answer, as it is written.
pub slot_line_is : (slot : ℕ) (text : List ℕ) → codes "slot " ++ (decimal slot ++ (32 ∷ (text ++ (10 ∷ [])))) ≡ slot_line slot text
slot_line_is slot text = simp append_assoc

-- The answer for a key.
pub found_node : (entries : List (RangeEntry SlotNodes)) (key line : List ℕ) (route : SlotRoute) (slot : ℕ) (address : Address) → IsKeySlot key route.slot → route.addr ≡ Master → slot ≡ route.slot → IsNodeOfRoute entries route 0 address
    → line ≡ slot_line slot (display_text address) → IsNodeAnswer entries key line 0
found_node entries key line route slot address s a e (nodes, answers, asked) text =
    let P : SlotAddr → Type 0 = λ x. IsNodeFor nodes x 0 address in
    rw (text, e) (served route.slot 0 address s (nodes, answers, subst P a asked))

pub found_none : (entries : List (RangeEntry SlotNodes)) (key line : List ℕ) (route : SlotRoute) (slot : ℕ) → IsKeySlot key route.slot → slot ≡ route.slot → IsUncovered entries route.slot → line ≡ slot_line slot (codes "none") → IsNodeAnswer entries key line 1
found_none entries key line route slot s e uncovered text = rw (text, e) (unserved route.slot s uncovered)

-- The answer of a request.
pub answers_node : (registered : Registrations) (entries : List (RangeEntry SlotNodes)) (asked : Question) (key : Bor (List ℕ)) (text line : List ℕ) (status : ℕ) → asked ≡ Node key → text ≡ line → IsNodeAnswer entries key.now line status → (words : List (List ℕ)) → Asks words asked → IsNodeOrSplit registered entries words text status
answers_node registered entries asked key text line status is t h words a = let b : Asks words (Node key) = subst (Asks words) is a in rw (b, t) (node_answer key.now line status h)

pub answers_split : (registered : Registrations) (entries : List (RangeEntry SlotNodes)) (asked : Question) (command : Bor (List (String Global))) (r : Result (Vec ℕ Global × ℕ) AnswerFault) → asked ≡ Split command
    → MatchResult r (λ a. IsSplitAnswer registered entries (map string_bytes command.now) a.0.items a.1) (WhyNoSplit registered (map string_bytes command.now)) → MatchResult r (λ a. (words : List (List ℕ)) → Asks words asked → IsNodeOrSplit registered entries words a.0.items a.1) (WhyNoAnswer registered asked)
answers_split registered entries asked command (Ok x) is h = λ words a. let b : Asks words (Split command) = subst (Asks words) is a in rw b.0 (split_answer (map string_bytes command.now) x.0.items x.1 h)
answers_split registered entries asked command (Err e) is h = rw is h

-- The status of an answer is 0, or 1 where there is no node.
node_status : (entries : List (RangeEntry SlotNodes)) (key line : List ℕ) (status : ℕ) → IsNodeAnswer entries key line status → status ≤ 1
node_status entries key line status (served slot pick address at node) = omega arith
node_status entries key line status (unserved slot at none) = omega arith

cond_status : (none : Bool) → (if none then 1 else 0) ≤ 1
cond_status true = omega arith
cond_status false = omega arith

pub answer_status : (registered : Registrations) (entries : List (RangeEntry SlotNodes)) (words : List (List ℕ)) (text : List ℕ) (status : ℕ) → IsNodeOrSplit registered entries words text status → status ≤ 1
answer_status registered entries words text status (node_answer key line of h) = node_status entries key line of h
answer_status registered entries words text status (split_answer command lines of h) = rw h.answered.ended (cond_status (list_any (λ part. is_none part.node) h.answered.parts))

-- The report of a fault.
-- a line was written, or a beginning of it
told : {E : Type 0} (failed : Type 0) (old new : Option (List ℕ)) (text line : List ℕ) (r : Result (Unit {0}) E) → text ≡ line → OnOk r (Appends old new text) → OnErr r ((k : ℕ) × Appends old new (take k text)) → OnErr r failed
    → (errs : List ℕ) × Appends old new errs × IsTold failed errs line
told failed old new text line (Ok x) t whole part f = (text, whole, inl t)
told failed old new text line (Err x) t whole (k, part) f = (take k line, rw t at part, inr (f, (k, refl)))

-- out of memory was reported in the place of a bad map line
pub reported_memory : {E : Type 0} (failed : Type 0) (old new : Option (List ℕ)) (e : Fault) (text : List ℕ) (r : Result (Unit {0}) E) → IsNumbered e → text ≡ fault_line fault.Memory → OnOk r (Appends old new text) → OnErr r ((k : ℕ) × Appends old new (take k text)) → OnErr r failed
    → Reports failed old new e
reported_memory failed old new e text r b t whole part f = let (errs, grown, is) = told failed old new text (fault_line fault.Memory) r t whole part f in (errs, grown, inr (b, is))

module _ (handed : Bool) where
  -- The faults and the answer of a run.
  pub usage_fault : (words : List (List ℕ)) (input out : Option (List ℕ)) → ¬ (IsUsage words) → Explains handed words input input out out fault.Usage
  usage_fault words None out h = (Appends-nil out, tt)
  usage_fault words (Some bytes) out h = (Appends-nil out, usage words bytes h)

  pub is_request : (words : List (List ℕ)) (r : Request) → AsksFor words r → IsUsage words
  is_request words (request.Answer (Node key)) a = rw a (node_request key.now)
  is_request words (request.Answer (Split command)) (a, some) = rw a (split_request (map string_bytes command.now) some)
  is_request words (request.Run direction) a = run_request direction words a

  -- a request reads, so nothing is said of a reader that is not touched
  pub touched : {S : Type 0} (words : List (List ℕ)) (old new : S) → IsUsage words → ¬ (IsUsage words) → new ≡ old
  touched words old new w other = absurd (other w)

  no_map_of : (words : List (List ℕ)) (input left out : Option (List ℕ)) (e : MapFault) → IsUsage words → IfSome input (λ bytes. WhyNoMap (leading_lines bytes) e) → Leaves input left (λ bytes rest. IsInputLeft bytes rest e) → Explains handed words input left out out (fault_of_map e)
  no_map_of words input left out map_fault.Memory w h l = ([], Appends-nil out, w, inl (refl, l))
  no_map_of words input left out map_fault.Input w h l = ([], Appends-nil out, w, inl (refl, l))
  no_map_of words None left out (map_fault.BadLine n) w h l = (Appends-nil out, tt)
  no_map_of words (Some bytes) None out (map_fault.BadLine n) w h l = absurd l
  no_map_of words (Some bytes) (Some rest) out (map_fault.BadLine n) w h l = (Appends-nil out, rw l (bad_map words bytes n w h))

  pub no_map : (words : List (List ℕ)) (input left out : Option (List ℕ)) (e : MapFault) (r : Result ℕ Fault) → IsUsage words → IfSome input (λ bytes. WhyNoMap (leading_lines bytes) e) → Leaves input left (λ bytes rest. IsInputLeft bytes rest e)
      → IsErrAnd r (λ x. x ≡ fault_of_map e) → MatchResult r (HasAnswer handed words input left out out) (Explains handed words input left out out)
  no_map words input left out e (Ok x) w h l is = absurd is
  no_map words input left out e (Err x) w h l is = rw is (no_map_of words input left out e w h l)

  pub no_memory : (words : List (List ℕ)) (input left out : Option (List ℕ)) (r : Result ℕ Fault) → IsUsage words → Leaves input left (λ bytes rest. rest ≡ after_map bytes) → IsErrAnd r (λ x. x ≡ fault.Memory)
      → MatchResult r (HasAnswer handed words input left out out) (Explains handed words input left out out)
  no_memory words input left out (Ok x) w l is = absurd is
  no_memory words input left out (Err x) w l is = rw is ([], Appends-nil out, w, inl (refl, left_after_map input left l))

  -- what explains that a command has no lines
  no_split_of : (command : List (List ℕ)) (input left out : Option (List ℕ)) (made : Made) (e : AnswerFault) → command ≢ [] → IfSome input (λ bytes. IsMap (leading_lines bytes) made) → Leaves input left (λ bytes rest. rest ≡ after_map bytes) → WhyNoSplit made.registry command e
      → Explains handed (split_words command) input left out out (fault_of_answer e)
  no_split_of command input left out made answer_fault.Memory some m l h = ([], Appends-nil out, split_request command some, inl (refl, left_after_map input left l))
  no_split_of command None left out made answer_fault.NotMultiKey some m l h = (Appends-nil out, tt)
  no_split_of command (Some bytes) None out made answer_fault.NotMultiKey some m l h = absurd l
  no_split_of command (Some bytes) (Some rest) out made answer_fault.NotMultiKey some m l h = (Appends-nil out, rw l (not_multi_key command bytes made some m h))

  no_answer_of : (words : List (List ℕ)) (asked : Question) (input left out : Option (List ℕ)) (made : Made) (e : AnswerFault) → Asks words asked → IfSome input (λ bytes. IsMap (leading_lines bytes) made) → Leaves input left (λ bytes rest. rest ≡ after_map bytes) → WhyNoAnswer made.registry asked e
      → Explains handed words input left out out (fault_of_answer e)
  no_answer_of words (Node key) input left out made e a m l h = rw (a, h) ([], Appends-nil out, node_request key.now, inl (refl, left_after_map input left l))
  no_answer_of words (Split command) input left out made e (a, some) m l h = rw a (no_split_of (map string_bytes command.now) input left out made e some m l h)

  pub no_answer : (words : List (List ℕ)) (asked : Question) (input left out : Option (List ℕ)) (made : Made) (e : AnswerFault) (r : Result ℕ Fault) → Asks words asked → IfSome input (λ bytes. IsMap (leading_lines bytes) made) → Leaves input left (λ bytes rest. rest ≡ after_map bytes) → WhyNoAnswer made.registry asked e
      → IsErrAnd r (λ x. x ≡ fault_of_answer e) → MatchResult r (HasAnswer handed words input left out out) (Explains handed words input left out out)
  no_answer words asked input left out made e (Ok x) a m l h is = absurd is
  no_answer words asked input left out made e (Err x) a m l h is = rw is (no_answer_of words asked input left out made e a m l h)

  pub answered : (words : List (List ℕ)) (input left out new : Option (List ℕ)) (made : Made) (text : List ℕ) (status : ℕ) → IfSome input (λ bytes. IsMap (leading_lines bytes) made) → Leaves input left (λ bytes rest. rest ≡ after_map bytes)
      → IsNodeOrSplit made.registry (insert_ranges [] made.ranges) words text status → Appends out new text → HasAnswer handed words input left out new status
  answered words None left out new made text status m l a t = (text, t, tt)
  answered words (Some bytes) None out new made text status m l a t = absurd l
  answered words (Some bytes) (Some rest) out new made text status m l a t = (text, t, rw l (answer words bytes text status made m a))

  -- a beginning of the answer was written
  begun : (words : List (List ℕ)) (input left out new : Option (List ℕ)) (made : Made) (text : List ℕ) (status k : ℕ) → IfSome input (λ bytes. IsMap (leading_lines bytes) made) → Leaves input left (λ bytes rest. rest ≡ after_map bytes)
      → IsNodeOrSplit made.registry (insert_ranges [] made.ranges) words text status → Appends out new (take k text) → Explains handed words input left out new fault.Output
  begun words None left out new made text status k m l a t = (take k text, t, inl tt)
  begun words (Some bytes) None out new made text status k m l a t = absurd l
  begun words (Some bytes) (Some rest) out new made text status k m l a t =
      (take k text, t, inl (rw l record { whole = text; status = status; called_for = answer words bytes text status made m a; count = k; begins = refl }))

  pub not_written : (words : List (List ℕ)) (input left out new : Option (List ℕ)) (made : Made) (text : List ℕ) (status k : ℕ) (r : Result ℕ Fault) → IfSome input (λ bytes. IsMap (leading_lines bytes) made)
      → Leaves input left (λ bytes rest. rest ≡ after_map bytes) → IsNodeOrSplit made.registry (insert_ranges [] made.ranges) words text status → Appends out new (take k text) → IsErrAnd r (λ x. x ≡ fault.Output) → MatchResult r (HasAnswer handed words input left out new) (Explains handed words input left out new)
  not_written words input left out new made text status k (Ok x) m l a t is = absurd is
  not_written words input left out new made text status k (Err x) m l a t is = rw is (begun words input left out new made text status k m l a t)

  -- The run of commands.
  pub ran_to_end : (words : List (List ℕ)) (direction : Direction) (input mid left out new : Option (List ℕ)) (made : Made) → IsRunWords direction words → IfSome input (λ bytes. IsMap (leading_lines bytes) made) → Leaves input mid (λ bytes rest. rest ≡ after_map bytes)
      → RunEnds handed direction made.registry (insert_ranges [] made.ranges) mid left out new → HasAnswer handed words input left out new 0
  ran_to_end words direction input mid left out new made asked m l (text, written, all) =
      (text, written, after_the_map _ _ _ input mid left m l all (λ bytes rest is_map run. run_to_end words direction bytes rest text made asked is_map run))

  both : (P Q : List ℕ → Type 0) (input : Option (List ℕ)) → IfSome input P → IfSome input Q → IfSome input (λ bytes. P bytes × Q bytes)
  both P Q None p q = tt
  both P Q (Some bytes) p q = (p, q)

  stopped_early : (words : List (List ℕ)) (direction : Direction) (first : ℕ) (input mid left out new : Option (List ℕ)) (made : Made) (e : RunFault) → IsRunWords direction words → IfSome input (λ bytes. first ≡ first_after_map bytes) → IfSome input (λ bytes. IsMap (leading_lines bytes) made)
      → Leaves input mid (λ bytes rest. rest ≡ after_map bytes) → RunStops handed direction made.registry (insert_ranges [] made.ranges) first mid left out new e → Explains handed words input left out new (fault_of_run e)
  stopped_early words direction first input mid left out new made (run_fault.Command n r) asked f m l (text, written, stopped) = (
    text,
    written,
    inr (direction, asked, after_the_map _ _ _ input mid left m l stopped (λ bytes rest is_map at. record { made = made; is_map = is_map; stops = begins_at_refused handed direction _ _ first _ rest text n r at })),
    after_the_map _ _ _ input mid left (both _ _ input m f) l stopped (λ bytes rest known at. run_refused words direction bytes rest text made n r asked known.0 (subst (λ (number : ℕ). RefusedAt handed direction made.registry (insert_ranges [] made.ranges) number (after_map bytes) rest text n r) known.1 at)),
  )
  stopped_early words direction first input mid left out new made run_fault.Memory asked f m l (text, written, stopped) =
      (text, written, run_request direction words asked, inr (direction, asked, after_the_map _ _ _ input mid left m l stopped (λ bytes rest is_map stops. record { made = made; is_map = is_map; stops = stops })))
  stopped_early words direction first input mid left out new made run_fault.Input asked f m l (text, written, stopped) =
      (text, written, run_request direction words asked, inr (direction, asked, after_the_map _ _ _ input mid left m l stopped (λ bytes rest is_map stops. record { made = made; is_map = is_map; stops = stops })))
  stopped_early words direction first input mid left out new made run_fault.Output asked f m l (text, written, stopped) =
      (text, written, inr (direction, asked, after_the_map _ _ _ input mid left m l stopped (λ bytes rest is_map cut. record { made = made; is_map = is_map; cut = cut })))

  pub run_stopped : (words : List (List ℕ)) (direction : Direction) (first : ℕ) (input mid left out new : Option (List ℕ)) (made : Made) (e : RunFault) (r : Result ℕ Fault) → IsRunWords direction words → IfSome input (λ bytes. first ≡ first_after_map bytes) → IfSome input (λ bytes. IsMap (leading_lines bytes) made)
      → Leaves input mid (λ bytes rest. rest ≡ after_map bytes) → RunStops handed direction made.registry (insert_ranges [] made.ranges) first mid left out new e → IsErrAnd r (λ x. x ≡ fault_of_run e) → MatchResult r (HasAnswer handed words input left out new) (Explains handed words input left out new)
  run_stopped words direction first input mid left out new made e (Ok x) asked f m l h is = absurd is
  run_stopped words direction first input mid left out new made e (Err x) asked f m l h is = rw is (stopped_early words direction first input mid left out new made e asked f m l h)

  -- The run as a whole.
  called_as : (words : List (List ℕ)) (input left : Option (List ℕ)) (outs errs line : List ℕ) → errs ≡ line → Leaves input left (λ bytes rest. Output handed words bytes rest outs line 2) → Leaves input left (λ bytes rest. Output handed words bytes rest outs errs 2)
  called_as words None left outs errs line e h = tt
  called_as words (Some bytes) None outs errs line e h = absurd h
  called_as words (Some bytes) (Some rest) outs errs line e h = rw e h

  pub served_answer : (reads writes tells : Type 0) (words : List (List ℕ)) (input left out new err : Option (List ℕ)) (status : ℕ) → HasAnswer handed words input left out new status → Serves reads writes tells handed words input left out new err err status
  served_answer reads writes tells words input left out new err status (outs, written, called_for) = inl record { outs = outs; errs = []; written = written; told = Appends-nil err; called_for = called_for }

  pub served_fault : (reads writes tells : Type 0) (words : List (List ℕ)) (input left out new err told : Option (List ℕ)) (e : Fault) → Explains handed words input left out new e → IsCaused reads writes e → Reports tells err told e → Serves reads writes tells handed words input left out new err told 2
  served_fault reads writes tells words input left out new err told fault.Usage x c (errs, a, inl (inl same)) =
      inl record { outs = []; errs = errs; written = x.0; told = a; called_for = called_as words input left [] errs usage_line same x.1 }
  served_fault reads writes tells words input left out new err told (fault.BadMapLine n) x c (errs, a, inl (inl same)) =
      inl record { outs = []; errs = errs; written = x.0; told = a; called_for = called_as words input left [] errs (bad_map_line n) same x.1 }
  served_fault reads writes tells words input left out new err told fault.NotMultiKey x c (errs, a, inl (inl same)) =
      inl record { outs = []; errs = errs; written = x.0; told = a; called_for = called_as words input left [] errs not_multi_key_line same x.1 }
  served_fault reads writes tells words input left out new err told (fault.Command n r) x c (errs, a, inl (inl same)) =
      inl record { outs = x.0; errs = errs; written = x.1; told = a; called_for = called_as words input left x.0 errs (refused_line n r) same x.3 }
  served_fault reads writes tells words input left out new err told e x c (errs, a, text) = inr record { fault = e; explained = x; caused = c; errs = errs; told = a; text = text; failed = refl }

  -- Where no stream may fail, only memory can run out.
  told_whole : (tells : Type 0) (text line : List ℕ) → ¬ tells → IsTold tells text line → text ≡ line
  told_whole tells text line whole (inl same) = same
  told_whole tells text line whole (inr (may, part)) = absurd (whole may)

  ran_out : (words : List (List ℕ)) (input left out new err told : Option (List ℕ)) (outs errs : List ℕ) (status : ℕ) → Appends out new outs → IsSoFar handed words input left outs → Appends err told errs → errs ≡ fault_line fault.Memory → status ≡ 2
      → RanOutOfMemory handed words input left out new err told status
  ran_out words input left out new err told outs errs status w s a same failed = record { outs = outs; written = w; so_far = s; told = rw same at a; failed = failed }

  so_far : (words : List (List ℕ)) (input left : Option (List ℕ)) (outs : List ℕ) → IsUnfinished handed words input left outs → IsSoFar handed words input left outs
  so_far words input left outs (inl (none, l)) = inl none
  so_far words input left outs (inr begun) = inr begun

  steady_fault : (reads writes tells : Type 0) (words : List (List ℕ)) (input left out new err told : Option (List ℕ)) (status : ℕ) (e : Fault) (errs : List ℕ) → ¬ reads → ¬ writes → ¬ tells → Explains handed words input left out new e → IsCaused reads writes e → Appends err told errs → TellsOf tells errs e → status ≡ 2
      → HasOutput handed words input left out new err told status ⊎ RanOutOfMemory handed words input left out new err told status
  steady_fault reads writes tells words input left out new err told status fault.Usage errs r w t x c a (inl line) failed =
      inl record { outs = []; errs = errs; written = x.0; told = a; called_for = rw failed (called_as words input left [] errs usage_line (told_whole tells errs usage_line t line) x.1) }
  steady_fault reads writes tells words input left out new err told status (fault.BadMapLine n) errs r w t x c a (inl line) failed =
      inl record { outs = []; errs = errs; written = x.0; told = a; called_for = rw failed (called_as words input left [] errs (bad_map_line n) (told_whole tells errs (bad_map_line n) t line) x.1) }
  steady_fault reads writes tells words input left out new err told status fault.NotMultiKey errs r w t x c a (inl line) failed =
      inl record { outs = []; errs = errs; written = x.0; told = a; called_for = rw failed (called_as words input left [] errs not_multi_key_line (told_whole tells errs not_multi_key_line t line) x.1) }
  steady_fault reads writes tells words input left out new err told status fault.Memory errs r w t x c a (inl line) failed = inr (ran_out words input left out new err told x.0 errs status x.1 (so_far words input left x.0 x.3) a (told_whole tells errs (fault_line fault.Memory) t line) failed)
  steady_fault reads writes tells words input left out new err told status fault.Input errs r w t x c a text failed = absurd (r c)
  steady_fault reads writes tells words input left out new err told status fault.Output errs r w t x c a text failed = absurd (w c)
  steady_fault reads writes tells words input left out new err told status (fault.BadMapLine n) errs r w t x c a (inr (b, line)) failed =
      inr (ran_out words input left out new err told [] errs status x.0 (inl refl) a (told_whole tells errs (fault_line fault.Memory) t line) failed)
  steady_fault reads writes tells words input left out new err told status (fault.Command n k) errs r w t x c a (inl line) failed =
      inl record { outs = x.0; errs = errs; written = x.1; told = a; called_for = rw failed (called_as words input left x.0 errs (refused_line n k) (told_whole tells errs (refused_line n k) t line) x.3) }
  steady_fault reads writes tells words input left out new err told status (fault.Command n k) errs r w t x c a (inr (b, line)) failed =
      inr (ran_out words input left out new err told x.0 errs status x.1 x.2 a (told_whole tells errs (fault_line fault.Memory) t line) failed)
  steady_fault reads writes tells words input left out new err told status fault.Usage errs r w t x c a (inr (b, line)) failed = absurd b
  steady_fault reads writes tells words input left out new err told status fault.NotMultiKey errs r w t x c a (inr (b, line)) failed = absurd b
  steady_fault reads writes tells words input left out new err told status fault.Memory errs r w t x c a (inr (b, line)) failed = absurd b

  pub served_steadily : (reads writes tells : Type 0) (words : List (List ℕ)) (input left out new err told : Option (List ℕ)) (status : ℕ) → Serves reads writes tells handed words input left out new err told status → ¬ reads → ¬ writes → ¬ tells
      → HasOutput handed words input left out new err told status ⊎ RanOutOfMemory handed words input left out new err told status
  served_steadily reads writes tells words input left out new err told status (inl a) r w t = inl a
  served_steadily reads writes tells words input left out new err told status (inr f) r w t = steady_fault reads writes tells words input left out new err told status f.fault f.errs r w t f.explained f.caused f.told f.text f.failed

  -- Where nothing is known of failures, each may have been.
  told_anyhow : (failed : Type 0) (text line : List ℕ) → IsTold failed text line → IsTold ⊤ text line
  told_anyhow failed text line (inl whole) = inl whole
  told_anyhow failed text line (inr (f, part)) = inr (tt, part)

  tells_anyhow : (failed : Type 0) (text : List ℕ) (e : Fault) → TellsOf failed text e → TellsOf ⊤ text e
  tells_anyhow failed text e (inl t) = inl (told_anyhow failed text (fault_line e) t)
  tells_anyhow failed text e (inr (b, t)) = inr (b, told_anyhow failed text (fault_line fault.Memory) t)

  cause_anyhow : (e : Fault) → IsCaused ⊤ ⊤ e
  cause_anyhow e = grind (arith)

  pub serves_anyhow : (reads writes tells : Type 0) (words : List (List ℕ)) (input left out new err told : Option (List ℕ)) (status : ℕ) → Serves reads writes tells handed words input left out new err told status → Serves ⊤ ⊤ ⊤ handed words input left out new err told status
  serves_anyhow reads writes tells words input left out new err told status (inl a) = inl a
  serves_anyhow reads writes tells words input left out new err told status (inr t) =
      inr record { fault = t.fault; explained = t.explained; caused = cause_anyhow t.fault; errs = t.errs; told = t.told; text = tells_anyhow tells t.errs t.fault t.text; failed = t.failed }
