-- The lines that register a name: `multi PATTERN POLICY NAME`, or `NAME WORD` for one of two.
use Rattle.std.specs.Prelude.{◌≡◌, ℕ, List, [], ◌∷◌, ◌++◌, ◌==◌, ◌||◌, if◌then◌else◌, Option, None, Some, codes, filter, length, map, nat_lt}
use Rattle.std.specs.List.{slice_split}
use Rattle.std.specs.Str.{bytes_eq}
use Rattle.cluster_slots.specs.declared.aggregate_op.AggregateOp.TheVariants.{Sum}
use Rattle.cluster_slots.specs.declared.arg_pattern.MultiSlotArgPattern.{MultiSlotArgPattern}
use Rattle.cluster_slots.specs.declared.arg_pattern.MultiSlotArgPattern.TheVariants.{KeysOnly, KeyValuePairs, KeysAndLastArg, KeyWithTwoArgTriples}
use Rattle.redis_routing.specs.Lookup.{lookup_name}
use Rattle.redis_routing.specs.Refusal.{register_error}
use Rattle.redis_routing.specs.Registry.{Registrations, Registered}
use Rattle.redis_routing.specs.Upper.{upper}
use Rattle.redis_routing.specs.declared.policy.ResponsePolicy.{ResponsePolicy}
use Rattle.redis_routing.specs.declared.policy.ResponsePolicy.TheVariants.{AllSucceeded, Aggregate, CombineArrays}
use Rattle.redis_bytes.specs.Table.{line_feed}
use Rattle.redis_bytes.specs.declared.fault.BytesFault.{BytesFault}
use Rattle.redis_bytes.specs.declared.fault.BytesFault.TheVariants.{Memory, BadName}

abbrev pub space : ℕ
space = 32

abbrev pub carriage_return : ℕ
carriage_return = 13

-- the fields of a line: the longest runs of bytes other than space
abbrev pub fields_of : List ℕ → List (List ℕ)
fields_of line = filter (λ f. nat_lt 0 (length f)) (slice_split (λ b. b == space) line)

-- the lines of a text that are not empty
abbrev pub filled_lines : List ℕ → List (List ℕ)
filled_lines text = filter (λ l. nat_lt 0 (length l))
    (slice_split (λ b. b == line_feed || b == carriage_return) text)

abbrev pub multi_word : List ℕ
multi_word = codes "multi"

-- how the arguments of a command make tuples, by the word PATTERN
abbrev pub pattern_words : List (List ℕ × MultiSlotArgPattern)
pattern_words =
    (codes "keys", KeysOnly) ∷
    (codes "pairs", KeyValuePairs) ∷
    (codes "last", KeysAndLastArg) ∷
    (codes "triples", KeyWithTwoArgTriples) ∷ []

-- how the replies to the parts make one, by the word POLICY
abbrev pub policy_words : List (List ℕ × ResponsePolicy)
policy_words =
    (codes "ok", AllSucceeded) ∷
    (codes "sum", Aggregate Sum) ∷
    (codes "list", CombineArrays) ∷ []

-- the name of one word, or of two with a space between them
abbrev pub name_of_words : List (List ℕ) → Option (List ℕ)
name_of_words (word ∷ []) = Some word
name_of_words (first ∷ second ∷ []) = Some (first ++ space ∷ second)
name_of_words words = None

-- the fields of a line that asks to register the name
abbrev pub IsMultiLine : List (List ℕ) → List ℕ → Registered → Type 0
IsMultiLine (first ∷ pattern ∷ policy ∷ words) name registered =
    (first ≡ multi_word) × (lookup_name pattern_words pattern ≡ Some registered.0)
    × (lookup_name policy_words policy ≡ Some registered.1) × (name_of_words words ≡ Some name)
IsMultiLine fields name registered = ⊥

-- The name was accepted, and registered in upper case. Other names keep their registration.
pub record IsRegistered (old new : Registrations) (name : List ℕ) (registered : Registered)
    : Type 0 where
  pub accepted : register_error old (upper name) registered.1 ≡ None
  pub rows : (other : List ℕ) → lookup_name new other
      ≡ (if bytes_eq (upper name) other then Some registered else lookup_name old other)

-- a line with these fields registered its name
pub record Registers (fields : List (List ℕ)) (old new : Registrations) : Type 0 where
  pub name : List ℕ
  pub registered : Registered
  pub asks : IsMultiLine fields name registered
  pub done : IsRegistered old new name registered

-- the lines register their names, one after the other
abbrev pub Register : List (List (List ℕ)) → Registrations → Registrations → Type 0
Register [] old new = new ≡ old
Register (line ∷ lines) old new =
    (between : Registrations) × Registers line old between × Register lines between new

-- the fields of each line of a text that is not empty
abbrev pub name_lines : List ℕ → List (List (List ℕ))
name_lines text = map fields_of (filled_lines text)

-- the names that the lines of a text register
abbrev pub AreNamesIn : List ℕ → Registrations → Type 0
AreNamesIn text registered = Register (name_lines text) [] registered

-- The line of this number is the first that registers no name. Empty lines have no number.
pub record IsFirstBadName (text : List ℕ) (number : ℕ) : Type 0 where
  pub good : List (List (List ℕ))
  pub bad : List (List ℕ)
  pub later : List (List (List ℕ))
  pub split : name_lines text ≡ good ++ bad ∷ later
  pub registered : Registrations
  pub before : Register good [] registered
  pub none : (next : Registrations) → ¬ (Registers bad registered next)
  pub counted : number ≡ length good

-- why a text has no names
abbrev pub HasNoNames : List ℕ → BytesFault → Type 0
HasNoNames text Memory = Unit {0}
HasNoNames text (BadName number) = IsFirstBadName text number
HasNoNames text _ = ⊥
