-- How many arguments make tuples.
use Rattle.std.proofs.Common.{◌≡◌, ℕ, ◌<◌, ◌≤◌, List, true, arith, length, take}
use Rattle.std.proofs.lemmas.Grind.{common_steps}
use Rattle.std.proofs.lemmas.Bool.Decides.{nat_tests}
use Rattle.std.proofs.lemmas.List.{length-take-le}
use Rattle.cluster_slots.specs.ArgPattern.{fits, tuple_args_count, width_of}
use Rattle.cluster_slots.specs.declared.arg_pattern.MultiSlotArgPattern.{MultiSlotArgPattern}

pub some_width : (pattern : MultiSlotArgPattern) → 0 < width_of pattern
some_width pattern = grind (arith)

-- no more arguments make tuples than there are
pub own_few : (pattern : MultiSlotArgPattern) (m : ℕ) → tuple_args_count pattern m ≤ m
own_few pattern m = grind (arith, common_steps)

pub length-own : (pattern : MultiSlotArgPattern) (present : List (List ℕ)) → length (take (tuple_args_count pattern (length present)) present) ≡ tuple_args_count pattern (length present)
length-own pattern present = length-take-le (tuple_args_count pattern (length present)) present (own_few pattern (length present))

-- if tuples are whole, some arguments make them
pub some_own : (pattern : MultiSlotArgPattern) (m : ℕ) → fits pattern m ≡ true → 0 < tuple_args_count pattern m
some_own pattern m h1 = grind (arith, nat_tests)

pub fits_some : (pattern : MultiSlotArgPattern) (m : ℕ) → fits pattern m ≡ true → 0 < m
fits_some pattern m h = omega (arith, some_own pattern m h, own_few pattern m)
