-- What the program reads and writes, and its status, for its words and its input.
use Rattle.std.specs.Prelude.{◌≡◌, ◌≢◌, ⊤, ℕ, ◌+◌, Bool, List, [], ◌∷◌, ◌++◌, None, Some, codes, decimal, length}
use Rattle.cluster_map.specs.Address.{Address, display_text}
use Rattle.cluster_map.specs.KeySlot.{IsKeySlot}
use Rattle.cluster_map.specs.Number.{number_in}
use Rattle.cluster_map.specs.SlotNodes.{SlotNodes, insert_ranges}
use Rattle.cluster_map.specs.RangeMap.{RangeEntry, IsUncovered}
use Rattle.cluster_map.specs.RouteNode.{IsNodeOfRoute}
use Rattle.redis_routing.specs.Registry.{Registrations}
use Rattle.cluster_slots.specs.declared.slot.SlotAddr.TheVariants.{Master}
use Rattle.slotroute_serve.specs.declared.direction.Direction.{Direction}
use Rattle.slotroute_serve.specs.declared.direction.Direction.TheVariants.{Forward, Reverse}
use Rattle.slotroute_serve.specs.declared.refusal.Refusal.{Refusal}
use Rattle.slotroute_serve.specs.RefusalText.{run_refusal_text}
use Rattle.redis_bytes.specs.NameLines.{space}
use Rattle.redis_bytes.specs.Table.{line_feed}
use Rattle.slotroute_serve.specs.Lines.{leading_lines, after_lines, after_map}
use Rattle.slotroute_serve.specs.MapLines.{Made, IsMap, IsFirstBadLine}
use Rattle.slotroute_serve.specs.Runs.{AllRun, RefusedAt}
use Rattle.slotroute_serve.specs.Split.{IsSplitAnswer, split_routes}
use Rattle.slotroute_serve.specs.declared.strategy.StrategyName.{StrategyName}
use Rattle.slotroute_serve.specs.declared.strategy.StrategyName.TheVariants.{First, Pick, Shard}

-- the words `node KEY`
abbrev pub node_words : List ℕ → List (List ℕ)
node_words key = codes "node" ∷ key ∷ []

-- the words `split WORD ..`
abbrev pub split_words : List (List ℕ) → List (List ℕ)
split_words command = codes "split" ∷ command

-- the word names the strategy: `first`, `shard`, or `pick=N` with a number of 64 bits
abbrev pub NamesStrategy : List ℕ → StrategyName → Type 0
NamesStrategy word First = word ≡ codes "first"
NamesStrategy word Shard = word ≡ codes "shard"
NamesStrategy word (Pick index) =
    (digits : List ℕ) × (word ≡ codes "pick=" ++ digits) × (number_in 64 digits ≡ Some index)

abbrev pub IsStrategyWord : List ℕ → Type 0
IsStrategyWord word = (strategy : StrategyName) × NamesStrategy word strategy

-- there is no word, or one that names a strategy
abbrev pub MayNameStrategy : List (List ℕ) → Type 0
MayNameStrategy [] = ⊤
MayNameStrategy (word ∷ []) = IsStrategyWord word
MayNameStrategy (word ∷ more ∷ words) = ⊥

abbrev pub direction_word : Direction → List ℕ
direction_word Forward = codes "forward"
direction_word Reverse = codes "reverse"

-- the words after `run`: the direction, and perhaps one that names a strategy
abbrev pub IsDirected : Direction → List (List ℕ) → Type 0
IsDirected direction [] = ⊥
IsDirected direction (word ∷ words) = (word ≡ direction_word direction) × MayNameStrategy words

-- the words `run ..` of this direction
abbrev pub IsRunWords : Direction → List (List ℕ) → Type 0
IsRunWords direction [] = ⊥
IsRunWords direction (word ∷ words) = (word ≡ codes "run") × IsDirected direction words

-- three words: `run`, one more, and one that names the strategy
abbrev pub IsRunBy : StrategyName → List (List ℕ) → Type 0
IsRunBy strategy (command ∷ direction ∷ word ∷ []) =
    (command ≡ codes "run") × NamesStrategy word strategy
IsRunBy strategy words = ⊥

-- the words are `node KEY`, `split WORD ..` with one word or more, or the words of `run`
pub data IsUsage : List (List ℕ) → Type 0 where
  node_request : (key : List ℕ) → IsUsage (node_words key)
  split_request : (command : List (List ℕ)) → command ≢ [] → IsUsage (split_words command)
  run_request : (direction : Direction) (words : List (List ℕ)) → IsRunWords direction words
      → IsUsage words

abbrev pub slot_line : ℕ → List ℕ → List ℕ
slot_line slot node = codes "slot " ++ decimal slot ++ space ∷ node ++ line_feed ∷ []

abbrev pub usage_line : List ℕ
usage_line =
    codes "usage: slotroute node KEY | split WORD .. | run forward|reverse [first|pick=N|shard]\n"

abbrev pub bad_map_line : ℕ → List ℕ
bad_map_line number = codes "slotroute: bad map line " ++ decimal number ++ line_feed ∷ []

abbrev pub not_multi_key_line : List ℕ
not_multi_key_line = codes "slotroute: not a multi-key command\n"

abbrev pub refused_line : ℕ → Refusal → List ℕ
refused_line number refusal =
    codes "slotroute: line " ++ decimal number ++ codes ": " ++ run_refusal_text refusal
    ++ line_feed ∷ []

-- the line and the status for a key: its slot, and the slot's primary or `none`
pub data IsNodeAnswer (entries : List (RangeEntry SlotNodes)) (key : List ℕ) : List ℕ → ℕ → Type 0 where
  served : (slot pick : ℕ) (address : Address) → IsKeySlot key slot
      → IsNodeOfRoute entries (record { slot = slot; addr = Master }) pick address
      → IsNodeAnswer entries key (slot_line slot (display_text address)) 0
  unserved : (slot : ℕ) → IsKeySlot key slot → IsUncovered entries slot
      → IsNodeAnswer entries key (slot_line slot (codes "none")) 1

-- the output and the status for the words: the line of the key for `node`, the lines of the command
-- for `split`
pub data IsNodeOrSplit (registered : Registrations) (entries : List (RangeEntry SlotNodes))
    : List (List ℕ) → List ℕ → ℕ → Type 0 where
  node_answer : (key line : List ℕ) (status : ℕ) → IsNodeAnswer entries key line status
      → IsNodeOrSplit registered entries (node_words key) line status
  split_answer : (command : List (List ℕ)) (lines : List ℕ) (status : ℕ)
      → IsSplitAnswer registered entries command lines status
      → IsNodeOrSplit registered entries (split_words command) lines status

-- the number of the first line after the map
abbrev pub first_after_map : List ℕ → ℕ
first_after_map input = length (leading_lines input) + 2

-- what is left of the input, what goes to the output and to the error stream, and the status;
-- `handed` says whether a strategy is passed
pub data Output (handed : Bool)
    : List (List ℕ) → List ℕ → List ℕ → List ℕ → List ℕ → ℕ → Type 0 where
  usage : (words : List (List ℕ)) (input : List ℕ) → ¬ (IsUsage words)
      → Output handed words input input [] usage_line 2
  bad_map : (words : List (List ℕ)) (input : List ℕ) (number : ℕ) → IsUsage words
      → IsFirstBadLine (leading_lines input) number
      → Output handed words input (after_lines number input) [] (bad_map_line number) 2
  not_multi_key : (command : List (List ℕ)) (input : List ℕ) (made : Made)
      → command ≢ [] → IsMap (leading_lines input) made → split_routes made.registry command ≡ None
      → Output handed (split_words command) input (after_map input) [] not_multi_key_line 2
  answer : (words : List (List ℕ)) (input text : List ℕ) (status : ℕ) (made : Made)
      → IsMap (leading_lines input) made → IsNodeOrSplit made.registry (insert_ranges [] made.ranges) words
      text status
      → Output handed words input (after_map input) text [] status
  run_to_end : (words : List (List ℕ)) (direction : Direction) (input left text : List ℕ)
      (made : Made) → IsRunWords direction words → IsMap (leading_lines input) made
      → AllRun handed direction made.registry (insert_ranges [] made.ranges) (after_map input) left text
      → Output handed words input left text [] 0
  run_refused : (words : List (List ℕ)) (direction : Direction) (input left text : List ℕ)
      (made : Made) (number : ℕ) (refusal : Refusal) → IsRunWords direction words
      → IsMap (leading_lines input) made
      → RefusedAt handed direction made.registry (insert_ranges [] made.ranges) (first_after_map input)
      (after_map input) left text number refusal
      → Output handed words input left text (refused_line number refusal) 2
