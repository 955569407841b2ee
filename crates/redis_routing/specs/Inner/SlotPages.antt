-- The numbers of slots, which stand in pages.
use Rattle.std.specs.Prelude.{◌≡◌, ℕ, ◌+◌, ◌*◌, ◌%◌, ◌/◌, ◌^◌, List, [], ◌∷◌, Option, None, Some, get_or, nat_eq, if◌then◌else◌}
use Rattle.std.specs.List.{list_any, position_or_len}
use Rattle.indexmap.specs.IndexMap.{IndexMap, get}

-- two bytes as a number, the lower first
abbrev pub read_pair : ℕ → List ℕ → ℕ
read_pair n (low ∷ high ∷ []) = low + high * 256
read_pair n bytes = n

-- the number of a page, with its bits 4 to 11 once more at 24 to 31
abbrev pub spread : ℕ → ℕ
spread n = (n * 1048577) % 2 ^ 64

-- the number at an index of a page, or 0 if there is no page
abbrev pub number_on_page : Option (List ℕ) → ℕ → ℕ
number_on_page None index = 0
number_on_page (Some page) index = get_or page index 0

-- the number of a slot, or 0 if it has none
abbrev pub number_on_pages : {S : Type 0} → IndexMap ℕ (List ℕ) S → ℕ → ℕ
number_on_pages pages slot = number_on_page (get nat_eq pages (slot / 4)) (slot % 4)

-- a number, or the next one in place of 0
abbrev pub number_or : ℕ → ℕ → ℕ
number_or next n = if nat_eq n 0 then next else n

-- where a slot is in a list, counted from 1, or 0 if it is not there
abbrev pub number_among : List ℕ → ℕ → ℕ
number_among slots slot = if list_any (nat_eq slot) slots then position_or_len (nat_eq slot) slots + 1 else 0

-- The pages give each slot the number that it has in the list.
abbrev pub ArePagesOf : {S : Type 0} → IndexMap ℕ (List ℕ) S → List ℕ → Type 0
ArePagesOf pages slots = (slot : ℕ) → number_on_pages pages slot ≡ number_among slots slot
