-- One array of 0 and 1 for replies that are such arrays.
use Rattle.std.specs.Prelude.{ℕ, pos, Bool, true, false, List, [], ◌∷◌, length, map, Option, Some, None, ◌==◌, ◌&&◌, ◌||◌, option_and_then, option_map, slice_index_or, if◌then◌else◌}
use Rattle.std.specs.List.{range_with_len, list_all, list_any, zip}
use Rattle.resp_core.specs.Reply.{Reply, int}
use Rattle.cluster_slots.specs.declared.aggregate_op.LogicalAggregateOp.{LogicalAggregateOp}
use Rattle.cluster_slots.specs.declared.aggregate_op.LogicalAggregateOp.TheVariants.{And, Or}
use Rattle.redis_combiners.specs.Bits.{bits_among, all_rows}

-- the length of the rows, if all have the same length; 0 without rows
abbrev pub common_length : List (List Bool) → Option ℕ
common_length [] = Some 0
common_length (first ∷ others) =
    if list_all (λ row. length row == length first) others then Some (length first)
    else None

-- the bits of all rows at an index
abbrev pub column : List (List Bool) → ℕ → List Bool
column rows place = map (λ row. slice_index_or row place false) rows

-- the bit of a column: with And whether all are 1, with Or whether one is 1
abbrev pub combined_bit : LogicalAggregateOp → List Bool → Bool
combined_bit And bits = list_all (λ bit. bit) bits
combined_bit Or bits = list_any (λ bit. bit) bits

-- the bit as a reply
abbrev pub as_int : Bool → Reply
as_int true = int (pos 1)
as_int false = int (pos 0)

-- the combined bits of the first `width` columns
abbrev pub combined_bits : LogicalAggregateOp → List (List Bool) → ℕ → List Reply
combined_bits op rows width =
    map (λ place. as_int (combined_bit op (column rows place))) (range_with_len 0 width)

-- two bits combined
abbrev pub joined_bit : LogicalAggregateOp → Bool → Bool → Bool
joined_bit And a b = a && b
joined_bit Or a b = a || b

-- two rows combined, index by index
abbrev pub joined_bits : LogicalAggregateOp → List Bool → List Bool → List Bool
joined_bits op row other = map (λ pair. joined_bit op pair.0 pair.1) (zip row other)

-- the items of two replies combined, if each is 0 or 1
abbrev pub joined_items : LogicalAggregateOp → List Reply → List Reply → Option (List Bool)
joined_items op row other =
    option_and_then (λ bits. option_map (joined_bits op bits) (bits_among other)) (bits_among row)

-- the items of the one array, if the replies are arrays of 0 and 1, all of one length
abbrev pub logical_items : LogicalAggregateOp → List Reply → Option (List Reply)
logical_items op replies =
    option_and_then (λ rows. option_map (combined_bits op rows) (common_length rows))
    (all_rows replies)
