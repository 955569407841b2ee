-- The total of each key, over replies that are keys and numbers in turn.
use Rattle.std.specs.Prelude.{◌≡◌, ℕ, ◌^◌, ℤ, Bool, List, length, map, filter, nat_lt, Option, Some, None, option_and_then, option_map, if◌then◌else◌}
use Rattle.std.specs.List.{list_any, All}
use Rattle.std.specs.List.Sorted.{IsStrictlySortedBy}
use Rattle.std.specs.Ordering.{nat_cmp}
use Rattle.std.specs.Cmp.Lexicographic.{slice_cmp}
use Rattle.std.specs.FinMap.{from_entries, keys}
use Rattle.std.specs.Str.{bytes_eq}
use Rattle.resp_core.specs.Reply.{Reply, bulk, int, pairs, pairs_of}
use Rattle.cluster_slots.specs.Lists.{all_some}
use Rattle.redis_combiners.specs.Aggregate.{total, in_i64}
use Rattle.redis_combiners.specs.KeyNumbers.{KeyNumber, all_pairs}

-- whether a pair has the key
abbrev pub has_key : List ℕ → KeyNumber → Bool
has_key key pair = bytes_eq pair.0 key

-- the total of a key: the whole sum of the numbers of the pairs that have it
abbrev pub total_of : List ℕ → List KeyNumber → ℤ
total_of key all = total (map (λ pair. pair.1) (filter (has_key key) all))

-- the total of a key, if a pair has it
abbrev pub total_at : List ℕ → List KeyNumber → Option ℤ
total_at key all = if list_any (has_key key) all then Some (total_of key all) else None

-- the keys that occur, each once, by ascending bytes
abbrev pub ascending_keys : List KeyNumber → List (List ℕ)
ascending_keys all = keys (from_entries {R = slice_cmp nat_cmp} all)

-- each key that occurs beside its total, by ascending bytes
abbrev pub totals : List KeyNumber → List KeyNumber
totals all = map (λ key. (key, total_of key all)) (ascending_keys all)

-- a listing of totals: each key that occurs, by strictly ascending bytes, beside its total
pub record IsListing (all sums : List KeyNumber) : Type 0 where
  pub ascending : IsStrictlySortedBy (slice_cmp nat_cmp) (map (λ sum. sum.0) sums)
  pub occurs : (key : List ℕ) → list_any (has_key key) sums ≡ list_any (has_key key) all
  pub beside : All (λ sum. sum.1 ≡ total_of sum.0 all) sums

-- a key and its total as replies, if the total fits in an i64
abbrev pub reply_pair : KeyNumber → Option (Reply × Reply)
reply_pair sum = option_map (λ n. (bulk sum.0, int n)) (in_i64 sum.1)

-- the map of some totals, if each fits in an i64
abbrev pub map_of : List KeyNumber → Option Reply
map_of sums = option_map (λ entries. pairs (pairs_of entries)) (all_some (map reply_pair sums))

-- the map of the totals, for fewer than 2 ^ 63 pairs
abbrev pub map_of_totals : List KeyNumber → Option Reply
map_of_totals all = if nat_lt (length all) (2 ^ 63) then map_of (totals all) else None

-- the one map for the replies, if there is one
abbrev pub combined_map : List Reply → Option Reply
combined_map replies = option_and_then map_of_totals (all_pairs replies)
