-- Tables of names.
use Rattle.std.specs.Prelude.{ℕ, List, [], ◌∷◌, Bool, true, ◌&&◌, Option, map}
use Rattle.std.specs.List.{list_any}
use Rattle.std.specs.Map.{lookup}
use Rattle.std.specs.Str.{bytes_eq}
use Rattle.std.specs.Ordering.{nat_cmp, is_lt}
use Rattle.std.specs.Cmp.Lexicographic.{slice_cmp}

-- what stands beside the name in a table, if the name is there
abbrev pub lookup_name : {A : Type 0} → List (List ℕ × A) → List ℕ → Option A
lookup_name rows name = lookup (λ known. bytes_eq known name) rows

-- whether the name is one of these
abbrev pub has_name : List (List ℕ) → List ℕ → Bool
has_name names name = list_any (λ known. bytes_eq known name) names

-- a row for each name, all with one value
abbrev pub rows_with : {A : Type 0} → A → List (List ℕ) → List (List ℕ × A)
rows_with value names = map (λ n. (n, value)) names

-- each name is below the next, by bytes
abbrev pub ascends_from : List ℕ → List (List ℕ) → Bool
ascends_from before [] = true
ascends_from before (n ∷ names) = is_lt (slice_cmp nat_cmp before n) && ascends_from n names

abbrev pub ascends : List (List ℕ) → Bool
ascends [] = true
ascends (n ∷ names) = ascends_from n names
