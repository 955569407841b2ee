-- Pairs of one key side by side, made one.
use Rattle.std.specs.Prelude.{ℕ, ℤ, ◌+ℤ◌, List, [], ◌∷◌, if◌then◌else◌}
use Rattle.std.specs.Str.{bytes_eq}
use Rattle.redis_combiners.specs.KeyNumbers.{KeyNumber}

-- the pairs with a key and a total before them, where pairs of one key side by side are one
abbrev pub joined_after : List ℕ → ℤ → List KeyNumber → List KeyNumber
joined_after key total [] = (key, total) ∷ []
joined_after key total (pair ∷ pairs) =
    if bytes_eq pair.0 key then joined_after key (total +ℤ pair.1) pairs
    else (key, total) ∷ joined_after pair.0 pair.1 pairs

-- the pairs, where pairs of one key side by side are one with their sum
abbrev pub joined : List KeyNumber → List KeyNumber
joined [] = []
joined (pair ∷ pairs) = joined_after pair.0 pair.1 pairs
