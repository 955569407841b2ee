-- The lines of the input, and their fields.
use Rattle.std.specs.Prelude.{◌≡◌, ◌≤◌, ℕ, ◌+◌, zero, suc, List, [], ◌∷◌, ◌++◌, ◌==◌, if◌then◌else◌, length, map}
use Rattle.std.specs.Io.BufRead.{strip_last, first_piece, drop_through}
use Rattle.redis_bytes.specs.NameLines.{carriage_return, fields_of}
use Rattle.redis_bytes.specs.Table.{line_feed}

-- a byte at the front of the first line
abbrev pub onto_first_line : ℕ → List (List ℕ) → List (List ℕ)
onto_first_line x [] = (x ∷ []) ∷ []
onto_first_line x (l ∷ ls) = (x ∷ l) ∷ ls

-- the lines: each ends with a line feed, which the last one may lack
abbrev pub raw_lines : List ℕ → List (List ℕ)
raw_lines [] = []
raw_lines (x ∷ xs) = if x == line_feed then [] ∷ raw_lines xs else onto_first_line x (raw_lines xs)

-- the lines, each without one carriage return at its end
abbrev pub lines_of : List ℕ → List (List ℕ)
lines_of input = map (strip_last carriage_return) (raw_lines input)

-- the first line
abbrev pub line_of : List ℕ → List ℕ
line_of input = strip_last carriage_return (first_piece line_feed input)

-- the lines, as their fields, before the first that has none
abbrev pub until_blank : List (List (List ℕ)) → List (List (List ℕ))
until_blank [] = []
until_blank ([] ∷ lines) = []
until_blank ((field ∷ fields) ∷ lines) = (field ∷ fields) ∷ until_blank lines

-- the leading lines of the input, as their fields
abbrev pub leading_lines : List ℕ → List (List (List ℕ))
leading_lines input = until_blank (map fields_of (lines_of input))

-- what follows the first lines, this many of them
abbrev pub after_lines : ℕ → List ℕ → List ℕ
after_lines zero input = input
after_lines (suc count) input = after_lines count (drop_through line_feed input)

-- what follows the map: the leading lines, and the line with no field that ends them
abbrev pub after_map : List ℕ → List ℕ
after_map input = after_lines (length (leading_lines input) + 1) input

-- what is left begins in the first line, or right after it
pub record StopsInLine (input left : List ℕ) : Type 0 where
  pub read : List ℕ
  pub more : List ℕ
  pub begun : input ≡ read ++ left
  pub ends : left ≡ more ++ drop_through line_feed input

-- what is left begins in a leading line, in the line that ends them, or right after it
pub record StopsInMap (input left : List ℕ) : Type 0 where
  pub count : ℕ
  pub within : count ≤ length (leading_lines input)
  pub stops : StopsInLine (after_lines count input) left
