-- The policies of names: how the replies of several nodes make one (the project's table of
-- policies).
use Rattle.std.specs.Prelude.{ℕ, List, [], ◌∷◌, ◌++◌, Bool, true, false, Option, codes}
use Rattle.cluster_slots.specs.declared.aggregate_op.LogicalAggregateOp.TheVariants.{And}
use Rattle.cluster_slots.specs.declared.aggregate_op.AggregateOp.TheVariants.{Min, Sum}
use Rattle.redis_routing.specs.Lookup.{lookup_name, rows_with}
use Rattle.redis_routing.specs.declared.policy.ResponsePolicy.{ResponsePolicy}
use Rattle.redis_routing.specs.declared.policy.ResponsePolicy.TheVariants.{OneSucceeded, FirstSucceededNonEmptyOrAllEmpty, AllSucceeded, AggregateLogical, Aggregate, CombineArrays, Special, CombineMaps}

-- 1 where all replies have 1
abbrev pub aggregate_logical_and : List (List ℕ)
aggregate_logical_and =
    codes "SCRIPT EXISTS" ∷ []

-- the sum of the replies
abbrev pub aggregate_sum : List (List ℕ)
aggregate_sum =
    codes "DBSIZE" ∷ codes "DEL" ∷ codes "EXISTS" ∷ codes "SLOWLOG LEN" ∷ codes "TOUCH" ∷
    codes "UNLINK" ∷ codes "LATENCY RESET" ∷ codes "PUBSUB NUMPAT" ∷ []

-- the least of the replies
abbrev pub aggregate_min : List (List ℕ)
aggregate_min =
    codes "WAIT" ∷ []

-- one reply, where all nodes succeeded
abbrev pub all_succeeded : List (List ℕ)
all_succeeded =
    codes "ACL SETUSER" ∷ codes "ACL DELUSER" ∷ codes "ACL SAVE" ∷ codes "CLIENT SETNAME" ∷
    codes "CLIENT SETINFO" ∷ codes "CONFIG SET" ∷ codes "CONFIG RESETSTAT" ∷
    codes "CONFIG REWRITE" ∷ codes "FLUSHALL" ∷ codes "FLUSHDB" ∷ codes "FUNCTION DELETE" ∷
    codes "FUNCTION FLUSH" ∷ codes "FUNCTION LOAD" ∷ codes "FUNCTION RESTORE" ∷
    codes "MEMORY PURGE" ∷ codes "MSET" ∷ codes "JSON.MSET" ∷ codes "PING" ∷ codes "SCRIPT FLUSH" ∷
    codes "SCRIPT LOAD" ∷ codes "SLOWLOG RESET" ∷ codes "UNWATCH" ∷ codes "WATCH" ∷ []

-- the replies as one array
abbrev pub combine_arrays : List (List ℕ)
combine_arrays =
    codes "KEYS" ∷ codes "FT._ALIASLIST" ∷ codes "FT._LIST" ∷ codes "MGET" ∷ codes "JSON.MGET" ∷
    codes "SLOWLOG GET" ∷ codes "PUBSUB CHANNELS" ∷ codes "PUBSUB SHARDCHANNELS" ∷ []

-- the replies as one map
abbrev pub combine_maps : List (List ℕ)
combine_maps =
    codes "PUBSUB NUMSUB" ∷ codes "PUBSUB SHARDNUMSUB" ∷ []

-- one reply, where one node succeeded
abbrev pub one_succeeded : List (List ℕ)
one_succeeded =
    codes "FUNCTION KILL" ∷ codes "SCRIPT KILL" ∷ []

-- the first reply that is not empty
abbrev pub first_succeeded_non_empty : List (List ℕ)
first_succeeded_non_empty =
    codes "RANDOMKEY" ∷ []

-- left to the caller
abbrev pub special : List (List ℕ)
special =
    codes "LATENCY GRAPH" ∷ codes "LATENCY HISTOGRAM" ∷ codes "LATENCY HISTORY" ∷
    codes "LATENCY DOCTOR" ∷ codes "LATENCY LATEST" ∷ codes "FUNCTION STATS" ∷
    codes "MEMORY MALLOC-STATS" ∷ codes "MEMORY DOCTOR" ∷ codes "MEMORY STATS" ∷ codes "INFO" ∷ []

abbrev pub policies : List (List ℕ × ResponsePolicy)
policies =
    rows_with (AggregateLogical And) aggregate_logical_and
    ++ rows_with (Aggregate Sum) aggregate_sum
    ++ rows_with (Aggregate Min) aggregate_min
    ++ rows_with AllSucceeded all_succeeded
    ++ rows_with CombineArrays combine_arrays
    ++ rows_with CombineMaps combine_maps
    ++ rows_with OneSucceeded one_succeeded
    ++ rows_with FirstSucceededNonEmptyOrAllEmpty first_succeeded_non_empty
    ++ rows_with Special special

-- the policy of a name, if the table has it
unfoldable pub policy_of : List ℕ → Option ResponsePolicy
policy_of name = lookup_name policies name

-- whether the replies to the parts of a split command can make one by this policy. By
-- `AllSucceeded` they make an `OK`, by `Aggregate(Sum)` a count, and by `CombineArrays` a list.
abbrev pub joins_parts : ResponsePolicy → Bool
joins_parts AllSucceeded = true
joins_parts (Aggregate Sum) = true
joins_parts CombineArrays = true
joins_parts _ = false
