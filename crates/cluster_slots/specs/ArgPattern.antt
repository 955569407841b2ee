-- How many arguments make tuples, by the pattern of a multi-key command.
use Rattle.std.specs.Prelude.{ℕ, ◌-◌, ◌%◌, Bool, ◌&&◌, cond, nat_eq, nat_lt}
use Rattle.cluster_slots.specs.declared.arg_pattern.MultiSlotArgPattern.{MultiSlotArgPattern}
use Rattle.cluster_slots.specs.declared.arg_pattern.MultiSlotArgPattern.TheVariants.{KeysOnly, KeyValuePairs, KeysAndLastArg, KeyWithTwoArgTriples}

-- how many arguments a tuple has
abbrev pub width_of : MultiSlotArgPattern → ℕ
width_of KeysOnly = 1
width_of KeyValuePairs = 2
width_of KeysAndLastArg = 1
width_of KeyWithTwoArgTriples = 3

-- whether so many arguments make whole tuples, and at least one
abbrev pub fits : MultiSlotArgPattern → ℕ → Bool
fits KeysOnly m = nat_lt 0 m
fits KeyValuePairs m = nat_lt 0 m && nat_eq (m % 2) 0
fits KeysAndLastArg m = nat_lt 0 m
fits KeyWithTwoArgTriples m = nat_lt 0 m && nat_eq (m % 3) 0

-- whether so many arguments are complete: they make whole tuples, and if keys share a last
-- argument, it is there
abbrev pub is_complete : MultiSlotArgPattern → ℕ → Bool
is_complete KeysOnly m = fits KeysOnly m
is_complete KeyValuePairs m = fits KeyValuePairs m
is_complete KeysAndLastArg m = nat_lt 1 m
is_complete KeyWithTwoArgTriples m = fits KeyWithTwoArgTriples m

-- how many of so many arguments make tuples: those after them are shared by all
abbrev pub tuple_args_count : MultiSlotArgPattern → ℕ → ℕ
tuple_args_count KeysOnly m = m
tuple_args_count KeyValuePairs m = m
tuple_args_count KeysAndLastArg m = cond (nat_lt 1 m) (m - 1) m
tuple_args_count KeyWithTwoArgTriples m = m
