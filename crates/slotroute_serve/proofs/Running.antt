-- The commands that were run so far, and what is left of the input.
use Rattle.std.proofs.Common.{◌≡◌, ◌≢◌, ℕ, ◌+◌, Bool, false, List, [], ◌∷◌, ◌++◌, refl, sym, ◌∙◌, ap, subst, arith, map, length, take, nat_lt, append_assoc}
use Rattle.std.proofs.lemmas.Grind.{common_steps}
use Rattle.std.specs.Prelude.{Option, Some, None, ⊤, IfSome}
use Rattle.std.specs.Io.BufRead.{drop_through, DropsThrough}
use Rattle.std.proofs.lemmas.List.{append-nil, length_push}
use Rattle.cluster_map.specs.RangeMap.{RangeEntry}
use Rattle.cluster_map.specs.SlotNodes.{SlotNodes}
use Rattle.redis_routing.specs.Registry.{Registrations}
use Rattle.memory_nodes.specs.Cells.{Cell}
use Rattle.redis_cluster.specs.Unsplit.{Keyspace}
use Rattle.slotroute_serve.specs.Commands.{IsRunRefused}
use Rattle.slotroute_serve.specs.declared.direction.Direction.{Direction}
use Rattle.slotroute_serve.specs.declared.refusal.Refusal.{Refusal}
use Rattle.redis_bytes.specs.NameLines.{fields_of}
use Rattle.slotroute_serve.specs.Lines.{line_of, after_lines, after_map, StopsInLine}
use Rattle.slotroute_serve.specs.Runs.{field_lines, no_keys, AreRun, AllRun, RefusedAt, StopsAfter, CutShort}
use Rattle.slotroute_serve.specs.Streams.{Leaves}
use Rattle.slotroute_serve.proofs.Leaving.{after_lines-more, line_read, not_read}
use Rattle.slotroute_serve.proofs.Reading.{HasLine, lines_of-first, true≢false, positive}

-- What follows the map, of an input whose map was read.
pub after_the_map : (M : List ℕ → Type 0) (P Q : List ℕ → List ℕ → Type 0) (input mid left : Option (List ℕ)) → IfSome input M → Leaves input mid (λ bytes rest. rest ≡ after_map bytes) → Leaves mid left P
    → ((bytes rest : List ℕ) → M bytes → P (after_map bytes) rest → Q bytes rest) → Leaves input left Q
after_the_map M P Q None mid left m l p f = tt
after_the_map M P Q (Some bytes) None left m l p f = absurd l
after_the_map M P Q (Some bytes) (Some rest) None m l p f = absurd p
after_the_map M P Q (Some bytes) (Some rest) (Some end) m l p f = f bytes end m (subst (λ (r : List ℕ). P r end) l p)

field_lines-first : (x : ℕ) (xs : List ℕ) → field_lines (x ∷ xs) ≡ fields_of (line_of (x ∷ xs)) ∷ field_lines (drop_through 10 (x ∷ xs))
field_lines-first x xs = ap (map fields_of) (lines_of-first x xs)

-- one more line
pub split_more : (input : List ℕ) (x : ℕ) (xs : List ℕ) (front : List (List (List ℕ))) (line : List ℕ) → field_lines input ≡ front ++ field_lines (x ∷ xs) → line ≡ line_of (x ∷ xs) → field_lines input ≡ front ++ fields_of line ∷ field_lines (drop_through 10 (x ∷ xs))
split_more input x xs front line split text =
    split ∙ ap (λ ls. front ++ ls) (field_lines-first x xs ∙ ap (λ l. fields_of l ∷ field_lines (drop_through 10 (x ∷ xs))) (sym text))

-- lines that were run under the same registrations
pub run_under : (handed : Bool) (direction : Direction) (old new : Registrations) (entries : List (RangeEntry SlotNodes)) (lines : List (List (List ℕ))) (a b : Keyspace Cell) (text : List ℕ) → old ≡ new → AreRun handed direction old entries lines a b text → AreRun handed direction new entries lines a b text
run_under handed direction old new entries lines a b text same run = subst (λ (known : Registrations). AreRun handed direction known entries lines a b text) same run

module _ (handed : Bool) (direction : Direction) (registered : Registrations) (entries : List (RangeEntry SlotNodes)) where
  -- one more line was run
  are_run_more : (front : List (List (List ℕ))) (fields : List (List ℕ)) (a b c : Keyspace Cell) (t u : List ℕ) → AreRun handed direction registered entries front a b t → AreRun handed direction registered entries (fields ∷ []) b c u → AreRun handed direction registered entries (front ++ fields ∷ []) a c (t ++ u)
  are_run_more [] fields a b c t u (same, none) run = rw none (subst (λ (k : Keyspace Cell). AreRun handed direction registered entries (fields ∷ []) k c u) same run)
  are_run_more ([] ∷ front) fields a b c t u before run = are_run_more front fields a b c t u before run
  are_run_more ((name ∷ words) ∷ front) fields a b c t u (first, rest, mid, one, more, text) run =
      (first, rest ++ u, mid, one, are_run_more front fields mid b c rest u more run, ap (λ x. x ++ u) text ∙ append_assoc first rest u)

  -- the lines so far were run, and the lines that are left follow them
  abbrev pub RunsOn : Option (List ℕ) → Option (List ℕ) → ℕ → ℕ → Keyspace Cell → List ℕ → Type 0
  RunsOn None left first number keys text = ⊤
  RunsOn (Some input) None first number keys text = ⊥
  RunsOn (Some input) (Some rest) first number keys text =
      (front : List (List (List ℕ))) × (field_lines input ≡ front ++ field_lines rest) × AreRun handed direction registered entries front no_keys keys text × (rest ≡ after_lines (length front) input) × (number ≡ first + length front)

  pub run_begun : (input : Option (List ℕ)) (first : ℕ) → RunsOn input input first first no_keys []
  run_begun None first = tt
  run_begun (Some input) first = ([], refl, (refl, refl), refl, omega arith)

  pub run_more : (old left new : Option (List ℕ)) (first number : ℕ) (keys later : Keyspace Cell) (text more line : List ℕ) → RunsOn old left first number keys text → HasLine left line → AreRun handed direction registered entries (fields_of line ∷ []) keys later more → DropsThrough left new 10
      → RunsOn old new first (number + 1) later (text ++ more)
  run_more None left new first number keys later text more line on h run d = tt
  run_more (Some input) None new first number keys later text more line on h run d = absurd on
  run_more (Some input) (Some []) new first number keys later text more line on h run d = absurd (true≢false h.there)
  run_more (Some input) (Some (x ∷ xs)) new first number keys later text more line (front, split, ran, r, n) h run d =
      rw d (
        front ++ fields_of line ∷ [],
        split_more input x xs front line split h.text ∙ sym (append_assoc front (fields_of line ∷ []) (field_lines (drop_through 10 (x ∷ xs)))),
        are_run_more front (fields_of line) no_keys keys later text more ran run,
        rw (length_push front (fields_of line)) (ap (drop_through 10) r ∙ sym (after_lines-more (length front) input)),
        rw (length_push front (fields_of line)) (omega (arith, n)),
      )

  pub run_ended : (old left new : Option (List ℕ)) (first number : ℕ) (keys : Keyspace Cell) (text : List ℕ) → RunsOn old left first number keys text → IfSome left (λ xs. false ≡ nat_lt 0 (length xs)) → DropsThrough left new 10
      → Leaves old new (λ bytes rest. AllRun handed direction registered entries bytes rest text)
  run_ended old left new first number keys text h1 h2 h3 = grind (arith, common_steps, append-nil, true≢false, positive)

  -- the reading stopped in the next line, after it, or before it
  pub stopped_in_line : (old left new : Option (List ℕ)) (first number : ℕ) (keys : Keyspace Cell) (text : List ℕ) → RunsOn old left first number keys text → Leaves left new StopsInLine → Leaves old new (λ bytes rest. StopsAfter handed direction registered entries bytes rest text)
  stopped_in_line None left new first number keys text on h = tt
  stopped_in_line (Some input) None new first number keys text on h = absurd on
  stopped_in_line (Some input) (Some xs) None first number keys text on h = absurd h
  stopped_in_line (Some input) (Some xs) (Some ys) first number keys text (front, split, ran, r, n) h =
      record { before = front; later = field_lines xs; lines = split; keyspace = keys; run = ran; stops = subst (λ (zs : List ℕ). StopsInLine zs ys) r h }

  pub stopped_after_line : (old left new : Option (List ℕ)) (first number : ℕ) (keys : Keyspace Cell) (text : List ℕ) → RunsOn old left first number keys text → DropsThrough left new 10 → Leaves old new (λ bytes rest. StopsAfter handed direction registered entries bytes rest text)
  stopped_after_line None left new first number keys text on d = tt
  stopped_after_line (Some input) None new first number keys text on d = absurd on
  stopped_after_line (Some input) (Some xs) new first number keys text on d = rw d (stopped_in_line (Some input) (Some xs) (Some (drop_through 10 xs)) first number keys text on (line_read xs))

  pub stopped_before_line : (old left : Option (List ℕ)) (first number : ℕ) (keys : Keyspace Cell) (text : List ℕ) → RunsOn old left first number keys text → Leaves old left (λ bytes rest. StopsAfter handed direction registered entries bytes rest text)
  stopped_before_line None left first number keys text on = tt
  stopped_before_line (Some input) None first number keys text on = absurd on
  stopped_before_line (Some input) (Some xs) first number keys text on = stopped_in_line (Some input) (Some xs) (Some xs) first number keys text on (not_read xs)

  -- the command of the next line is refused
  pub refused_in_line : (old left new : Option (List ℕ)) (first number told : ℕ) (keys : Keyspace Cell) (text line : List ℕ) (refusal : Refusal) → RunsOn old left first number keys text → HasLine left line → DropsThrough left new 10
      → (told ≡ number) × (fields_of line ≢ []) × IsRunRefused registered entries (fields_of line) refusal → Leaves old new (λ bytes rest. RefusedAt handed direction registered entries first bytes rest text told refusal)
  refused_in_line None left new first number told keys text line refusal on h d why = tt
  refused_in_line (Some input) None new first number told keys text line refusal on h d why = absurd on
  refused_in_line (Some input) (Some []) new first number told keys text line refusal on h d why = absurd (true≢false h.there)
  refused_in_line (Some input) (Some (x ∷ xs)) new first number told keys text line refusal (front, split, ran, r, n) h d (same, some, why) =
      rw d record {
        before = front;
        command = fields_of line;
        later = field_lines (drop_through 10 (x ∷ xs));
        lines = split_more input x xs front line split h.text;
        keyspace = keys;
        run = ran;
        some = some;
        why = why;
        counted = same ∙ n;
        left_is = ap (drop_through 10) r ∙ sym (after_lines-more (length front) input);
      }

  -- some bytes of what the next line prints were written
  pub cut : (old left new : Option (List ℕ)) (first number : ℕ) (keys after : Keyspace Cell) (earlier whole line text : List ℕ) (count : ℕ) → RunsOn old left first number keys earlier → HasLine left line → AreRun handed direction registered entries (fields_of line ∷ []) keys after whole → DropsThrough left new 10
      → text ≡ earlier ++ take count whole → Leaves old new (λ bytes rest. CutShort handed direction registered entries bytes rest text)
  cut None left new first number keys after earlier whole line text count on h last d begins = tt
  cut (Some input) None new first number keys after earlier whole line text count on h last d begins = absurd on
  cut (Some input) (Some []) new first number keys after earlier whole line text count on h last d begins = absurd (true≢false h.there)
  cut (Some input) (Some (x ∷ xs)) new first number keys after earlier whole line text count (front, split, ran, r, n) h last d begins =
      rw d record {
        before = front;
        fields = fields_of line;
        later = field_lines (drop_through 10 (x ∷ xs));
        lines = split_more input x xs front line split h.text;
        keyspace = keys;
        after = after;
        earlier = earlier;
        whole = whole;
        run = ran;
        last = last;
        count = count;
        begins = begins;
        left_is = ap (drop_through 10) r ∙ sym (after_lines-more (length front) input);
      }

  -- a refused command's line was read whole
  pub begins_at_refused : (first : ℕ) (input left text : List ℕ) (number : ℕ) (refusal : Refusal) → RefusedAt handed direction registered entries first input left text number refusal → StopsAfter handed direction registered entries input left text
  begins_at_refused first input left text number refusal at = grind (arith, after_lines-more, line_read)
