-- Tables whose names are found by a number of theirs.
use Rattle.std.specs.Prelude.{ℕ, ◌+◌, ◌-◌, ◌*◌, ◌/◌, ◌%◌, List, Bool, Option, Some, None, cond, nat_lt, map, length, get_or, slice_get, option_and_then}
use Rattle.std.specs.List.{range_with_len}
use Rattle.std.specs.Str.{bytes_eq}

-- a number for a name by five of its bytes
abbrev pub name_hash : List ℕ → ℕ
name_hash name =
    cond (nat_lt (length name) 3) 0
    ((((get_or name (length name - 7) 0 * 4 + get_or name 0 0) * 15
    + get_or name ((length name - 3) / 2) 0) * 9 + get_or name (length name - 1) 0) * 33
    + get_or name (length name - 3) 0)

-- a number for a first word by two of its bytes
abbrev pub word_hash : List ℕ → ℕ
word_hash word = cond (nat_lt (length word) 2) 0 (get_or word 1 0 * 3 + get_or word (length word - 1) 0)

-- the place that a list of places has for a number
abbrev pub row_of : List ℕ → ℕ → ℕ
row_of places number = get_or places (number % length places) 0

-- whether each name stands at its place
abbrev pub stand_at_their_rows : (List ℕ → ℕ) → List (List ℕ) → Bool
stand_at_their_rows place names = bytes_eq (map place names) (range_with_len 0 (length names))

-- what stands beside the name in this row, if the row has the name
abbrev pub value_at : {A : Type 0} → List (List ℕ × A) → ℕ → List ℕ → Option A
value_at rows row name = option_and_then (λ r. cond (bytes_eq r.0 name) (Some r.1) None) (slice_get rows row)
