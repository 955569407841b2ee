-- What `run` does with the lines after the map.
use Rattle.std.specs.Prelude.{◌≡◌, ◌≢◌, ℕ, ◌+◌, Bool, List, [], ◌∷◌, ◌++◌, None, length, map, take}
use Rattle.cluster_map.specs.RangeMap.{RangeEntry}
use Rattle.cluster_map.specs.SlotNodes.{SlotNodes}
use Rattle.redis_routing.specs.Registry.{Registrations}
use Rattle.memory_nodes.specs.Cells.{Cell}
use Rattle.redis_cluster.specs.Unsplit.{Keyspace}
use Rattle.slotroute_serve.specs.Commands.{IsCommandRun, IsRunRefused}
use Rattle.slotroute_serve.specs.declared.direction.Direction.{Direction}
use Rattle.slotroute_serve.specs.declared.refusal.Refusal.{Refusal}
use Rattle.redis_bytes.specs.NameLines.{fields_of}
use Rattle.slotroute_serve.specs.Lines.{lines_of, after_lines, StopsInLine}

-- the lines of an input, each as its fields
abbrev pub field_lines : List ℕ → List (List (List ℕ))
field_lines input = map fields_of (lines_of input)

-- the keyspace without keys
abbrev pub no_keys : Keyspace Cell
no_keys = λ key. None

module _ (handed : Bool) (direction : Direction) (registered : Registrations)
    (entries : List (RangeEntry SlotNodes)) where
  -- The lines were run, each command from the keyspace that those before it left, and the text is
  -- what they printed, one after the other. A line with no field does nothing.
  abbrev pub AreRun : List (List (List ℕ)) → Keyspace Cell → Keyspace Cell → List ℕ → Type 0
  AreRun [] old new text = (new ≡ old) × (text ≡ [])
  AreRun ([] ∷ lines) old new text = AreRun lines old new text
  AreRun ((name ∷ words) ∷ lines) old new text =
      (first rest : List ℕ) × (between : Keyspace Cell)
      × IsCommandRun handed direction registered entries (name ∷ words) old between first
      × AreRun lines between new rest × (text ≡ first ++ rest)

  -- all lines of the input were run, and nothing is left of it
  pub record AllRun (input left text : List ℕ) : Type 0 where
    pub keyspace : Keyspace Cell
    pub run : AreRun (field_lines input) no_keys keyspace text
    pub left_is : left ≡ []

  -- The lines before line `number` were run, and the command of that line is refused. The first
  -- line has the number `first`. What follows the refused line is left.
  pub record RefusedAt (first : ℕ) (input left text : List ℕ) (number : ℕ) (refusal : Refusal)
      : Type 0 where
    pub before : List (List (List ℕ))
    pub command : List (List ℕ)
    pub later : List (List (List ℕ))
    pub lines : field_lines input ≡ before ++ command ∷ later
    pub keyspace : Keyspace Cell
    pub run : AreRun before no_keys keyspace text
    pub some : command ≢ []
    pub why : IsRunRefused registered entries command refusal
    pub counted : number ≡ first + length before
    pub left_is : left ≡ after_lines (length before + 1) input

  -- the first lines were run, and the reading stopped in the next line or after it
  pub record StopsAfter (input left text : List ℕ) : Type 0 where
    pub before : List (List (List ℕ))
    pub later : List (List (List ℕ))
    pub lines : field_lines input ≡ before ++ later
    pub keyspace : Keyspace Cell
    pub run : AreRun before no_keys keyspace text
    pub stops : StopsInLine (after_lines (length before) input) left

  -- The first lines were run. The text is what they printed, and the first bytes, perhaps all, of
  -- what the next line prints. What follows that line is left.
  pub record CutShort (input left text : List ℕ) : Type 0 where
    pub before : List (List (List ℕ))
    pub fields : List (List ℕ)
    pub later : List (List (List ℕ))
    pub lines : field_lines input ≡ before ++ fields ∷ later
    pub keyspace : Keyspace Cell
    pub after : Keyspace Cell
    pub earlier : List ℕ
    pub whole : List ℕ
    pub run : AreRun before no_keys keyspace earlier
    pub last : AreRun (fields ∷ []) keyspace after whole
    pub count : ℕ
    pub begins : text ≡ earlier ++ take count whole
    pub left_is : left ≡ after_lines (length before + 1) input
