-- Pairs of keys and numbers, added one by one.
use Rattle.std.proofs.Common.{option_map, ◌≡◌, ◌+◌, ◌/◌, ℕ, ℤ, List, [], ◌∷◌, ◌++◌, length, Some, map, arith}
use Rattle.std.specs.Prelude.{IfSome, option_and_then}
use Rattle.std.proofs.lemmas.Grind.{common_steps}
use Rattle.resp_core.specs.Reply.{Reply, int_of, bulk_string_of, array_of}
use Rattle.resp_core.specs.View.{view}
use Rattle.resp_core.specs.declared.value.Value.{Value}
use Rattle.redis_combiners.specs.KeyNumbers.{KeyNumber, pairs_among, all_pairs}

-- the next pair of a reply
pub pairs_next : (key number : Value) (rest0 rest1 rest2 : List Value) (k : List ℕ) (n : ℤ) → rest0 ≡ key ∷ rest1 → rest1 ≡ number ∷ rest2 → Some k ≡ bulk_string_of (view key) → Some n ≡ int_of (view number)
    → option_map (λ ps. (k, n) ∷ ps) (pairs_among (map view rest2)) ≡ pairs_among (map view rest0)
pairs_next key number rest0 rest1 rest2 k n e f b i = grind (arith, common_steps)

-- the pairs of a reply before those of others
pub pairs_then : (r : Reply) (rs : List Reply) (found : List KeyNumber) → option_and_then pairs_among (array_of r) ≡ Some found → option_map (λ ps. found ++ ps) (all_pairs rs) ≡ all_pairs (r ∷ rs)
pairs_then r rs found e = grind (arith, common_steps)

-- items in turn are twice as many as their pairs
twice : (items : List Reply) (ps : List KeyNumber) → pairs_among items ≡ Some ps → length ps + length ps ≡ length items
twice [] ps e = grind (arith, common_steps)
twice (key ∷ []) ps e = absurd (cc)
twice (key ∷ number ∷ items) ps e = grind (arith, common_steps, twice items)

pub half : (items : List Reply) → IfSome (pairs_among items) (λ ps. length ps ≡ length items / 2)
half items = grind (arith, common_steps, twice)
