-- A running total of replies that are numbers.
use Rattle.std.proofs.Common.{◌≡◌, ℕ, ◌+◌, ◌<◌, List, length, get_or, drop, map, fold, ℤ, Option, Some, arith}
use Rattle.std.specs.Prelude.{option_map}
use Rattle.std.proofs.lemmas.Grind.{common_steps}
use Rattle.resp_core.specs.Reply.{Reply, int_of}
use Rattle.resp_core.specs.View.{view}
use Rattle.resp_core.specs.declared.value.Value.{Value}
use Rattle.redis_combiners.specs.Aggregate.{numbers}

-- what f makes of the numbers, from a on
abbrev pub fold_on : (ℤ → ℤ → ℤ) → ℤ → List Reply → Option ℤ
fold_on f a rs = option_map (fold f a) (numbers rs)

pub fold_step : (f : ℤ → ℤ → ℤ) (a n : ℤ) (vs : List Value) (i : ℕ) (v : Value) → i < length vs → v ≡ get_or vs i v → Some n ≡ int_of (view v) → fold_on f a (map view (drop i vs)) ≡ fold_on f (f a n) (map view (drop (i + 1) vs))
fold_step f a n vs i v l is e = grind (arith, common_steps)
