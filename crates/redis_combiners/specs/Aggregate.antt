-- One number for replies that are numbers: their sum, or the least of them.
use Rattle.std.specs.Prelude.{◌-◌, ◌^◌, ℤ, pos, negsuc, ◌+ℤ◌, List, map, fold, Option, Some, None, Bool, ◌&&◌, int_le, option_and_then, option_map, if◌then◌else◌}
use Rattle.std.specs.Int.{int_min}
use Rattle.resp_core.specs.Reply.{Reply, int, int_of}
use Rattle.cluster_slots.specs.Lists.{all_some}
use Rattle.cluster_slots.specs.declared.aggregate_op.AggregateOp.{AggregateOp}
use Rattle.cluster_slots.specs.declared.aggregate_op.AggregateOp.TheVariants.{Min, Sum}

-- the numbers of the replies, if each reply is a number
abbrev pub numbers : List Reply → Option (List ℤ)
numbers replies = all_some (map int_of replies)

-- the whole sum, without a bound
abbrev pub total : List ℤ → ℤ
total ns = fold ◌+ℤ◌ (pos 0) ns

-- whether the number fits in an i64
abbrev pub fits_i64 : ℤ → Bool
fits_i64 n = int_le (negsuc (2 ^ 63 - 1)) n && int_le n (pos (2 ^ 63 - 1))

-- the number itself, if it fits in an i64
abbrev pub in_i64 : ℤ → Option ℤ
in_i64 n = if fits_i64 n then Some n else None

-- the sum, if each reply is a number and the whole sum fits in an i64
abbrev pub sum_of : List Reply → Option ℤ
sum_of rs = option_and_then (λ ns. in_i64 (total ns)) (numbers rs)

-- the least number, if each reply is a number; the greatest i64 for no replies
abbrev pub least_of : List Reply → Option ℤ
least_of rs = option_map (λ ns. fold int_min (pos (2 ^ 63 - 1)) ns) (numbers rs)

-- the one number for the replies, if there is one
abbrev pub aggregate_of : AggregateOp → List Reply → Option Reply
aggregate_of Min replies = option_map int (least_of replies)
aggregate_of Sum replies = option_map int (sum_of replies)
