-- What a look-up of a slot reads beside the entries.
use Rattle.std.specs.Prelude.{◌≡◌, ◌<◌, ◌≤◌, ℕ, ◌*◌, ◌^◌, nat_lt, List, length, map, filter, take, drop, get_or}
use Rattle.cluster_map.specs.RangeMap.{RangeEntry, end_of}

-- A page is 2 ^ bits slots. Its number is at most the count of ends below its first slot.
abbrev pub ArePages : ℕ → List ℕ → List ℕ → Type 0
ArePages bits numbers ends =
    (page d : ℕ) → page < length numbers
    → get_or numbers page d ≤ length (filter (λ e. nat_lt e (page * 2 ^ bits)) ends)

-- the ends of the entries, and then the numbers of pages
pub record IsIndex {V : Type 0} (es : List (RangeEntry V)) (index : List ℕ) (bits : ℕ) : Type 0 where
  pub long : length es ≤ length index
  pub ends : take (length es) index ≡ map end_of es
  pub pages : ArePages bits (drop (length es) index) (map end_of es)
  pub small : bits < 16
