-- Messages of version 2 of the protocol.
use Rattle.std.specs.Prelude.{◌≡◌, ◌==◌, ℕ, Bool, true, false, List, [], ◌∷◌, codes}
use Rattle.std.specs.List.{AllByRecursion, flat_map, list_any}
use Rattle.resp.specs.Messages.{IsHead}

-- whether a head that begins so is one of version 2
abbrev pub is_mark : List ℕ → Bool
is_mark [] = false
is_mark (mark ∷ text) = list_any (λ b. b == mark) (codes "+-:$*")

abbrev pub IsHeadOfVersion2 : List ℕ → Type 0
IsHeadOfVersion2 head = (is_mark head ≡ true) × (items : ℕ) × IsHead items head

-- The bytes are heads of version 2, one after the other. So `*1`, `:5` are, and `%0` is not.
abbrev pub IsVersion2 : List ℕ → Type 0
IsVersion2 bytes = (heads : List (List ℕ)) × (bytes ≡ flat_map (λ head. head) heads)
    × AllByRecursion IsHeadOfVersion2 heads
