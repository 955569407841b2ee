-- The numbers of links that may be given again.
use Rattle.std.specs.Prelude.{◌≡◌, ℕ, suc, List, [], ◌∷◌, length, Option, None, Some, slice_get}
use Rattle.session_core.specs.Channel.{Channel}

-- how many places have no link
abbrev pub count_free : List (Option Channel) → ℕ
count_free [] = 0
count_free (None ∷ links) = suc (count_free links)
count_free (Some c ∷ links) = count_free links

pub record AreFree (free : List ℕ) (links : List (Option Channel)) : Type 0 where
  pub empty : (i n : ℕ) → slice_get free i ≡ Some n → slice_get links n ≡ Some None
  -- no number stands twice
  pub apart : (i j n : ℕ) → slice_get free i ≡ Some n → slice_get free j ≡ Some n → i ≡ j
  -- each of them stands there
  pub count : length free ≡ count_free links
