-- The order in which the parts of a command go out.
use Rattle.std.specs.Prelude.{ℕ, List, reverse}
use Rattle.std.specs.List.{range_with_len}
use Rattle.slotroute_serve.specs.declared.direction.Direction.{Direction}
use Rattle.slotroute_serve.specs.declared.direction.Direction.TheVariants.{Forward, Reverse}

-- the numbers of `count` routes, from the first or from the last on
abbrev pub send_order : Direction → ℕ → List ℕ
send_order Forward count = range_with_len 0 count
send_order Reverse count = reverse (range_with_len 0 count)
