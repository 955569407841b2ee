-- The part of a key that decides its slot (Redis cluster specification, "Hash tags").
use Rattle.std.specs.Prelude.{◌≡◌, ◌≢◌, ◌⊎◌, ℕ, ◌&&◌, List, [], ◌∷◌, ◌++◌, Contains, cond, length, nat_eq, nat_lt}
use Rattle.std.specs.List.{list_any, before_first, after_first}
use Rattle.cluster_slots.specs.Bytes.{open_brace, close_brace}

-- key is u { t } v with no opening brace in u, no closing brace in t, and t not empty
pub record HoldsTag (key t u v : List ℕ) : Type 0 where
  pub split : key ≡ u ++ open_brace ∷ (t ++ close_brace ∷ v)
  pub first : ¬ (Contains u open_brace)
  pub closed : ¬ (Contains t close_brace)
  pub some : t ≢ []

-- the key has the tag t in braces
abbrev pub HasTag : List ℕ → List ℕ → Type 0
HasTag key t = (u : List ℕ) × (v : List ℕ) × HoldsTag key t u v

-- the key has no tag in braces
abbrev pub HasNoTag : List ℕ → Type 0
HasNoTag key = (t : List ℕ) → ¬ (HasTag key t)

-- t decides the key's slot: it is the tag in braces, or the whole key if there is none
abbrev pub IsHashTag : List ℕ → List ℕ → Type 0
IsHashTag key t = HasTag key t ⊎ ((t ≡ key) × HasNoTag key)

-- the hash tag of a key, by what follows its first opening brace: the whole key if there is no tag
abbrev pub tag_in : List ℕ → List ℕ → List ℕ
tag_in key rest =
    cond (list_any (nat_eq close_brace) rest
    && nat_lt 0 (length (before_first (nat_eq close_brace) rest)))
    (before_first (nat_eq close_brace) rest) key

abbrev pub hash_tag : List ℕ → List ℕ
hash_tag key = tag_in key (after_first (nat_eq open_brace) key)
