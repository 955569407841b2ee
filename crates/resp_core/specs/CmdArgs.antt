-- What a contract sees of a command: its items, each a list of bytes.
use Rattle.std.specs.Prelude.{ℕ, List, Bool, nat_eq}
use Rattle.std.specs.Cmp.Lexicographic.{pointwise}

-- whether two commands have the same items in the same order
abbrev pub same_args : List (List ℕ) → List (List ℕ) → Bool
same_args = pointwise (pointwise nat_eq)
