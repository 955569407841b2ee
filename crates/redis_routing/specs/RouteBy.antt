-- How names are routed: where a command of the name goes (the project's table of routings).
use Rattle.std.specs.Prelude.{ℕ, List, [], ◌∷◌, ◌++◌, Option, None, Some, codes, map}
use Rattle.cluster_slots.specs.declared.arg_pattern.MultiSlotArgPattern.{MultiSlotArgPattern}
use Rattle.redis_routing.specs.Lookup.{lookup_name, rows_with}
use Rattle.redis_routing.specs.MultiKeyRows.{multi_key_names}
use Rattle.redis_routing.specs.declared.route_by.RouteBy.{RouteBy}
use Rattle.redis_routing.specs.declared.route_by.RouteBy.TheVariants.{AllNodes, AllMasters, MultiSlot, Undefined, CountAt, KeyAt, KeyAfterStreams, Random, SlotAt}

-- The table. Names that are split by slot have the patterns of their rows.
abbrev pub base_routings : List (List ℕ × RouteBy)
base_routings =
    -- to each node
    rows_with AllNodes
    (codes "ACL SETUSER" ∷ codes "ACL DELUSER" ∷ codes "ACL SAVE" ∷ codes "CLIENT SETNAME"
    ∷ codes "CLIENT SETINFO" ∷ codes "SLOWLOG GET" ∷ codes "SLOWLOG LEN" ∷ codes "SLOWLOG RESET"
    ∷ codes "CONFIG SET" ∷ codes "CONFIG RESETSTAT" ∷ codes "CONFIG REWRITE"
    ∷ codes "SCRIPT FLUSH" ∷ codes "SCRIPT LOAD" ∷ codes "SCRIPT KILL" ∷ codes "LATENCY RESET"
    ∷ codes "LATENCY GRAPH" ∷ codes "LATENCY HISTOGRAM" ∷ codes "LATENCY HISTORY"
    ∷ codes "LATENCY DOCTOR" ∷ codes "LATENCY LATEST" ∷ codes "PUBSUB NUMPAT"
    ∷ codes "PUBSUB CHANNELS" ∷ codes "PUBSUB NUMSUB" ∷ codes "PUBSUB SHARDCHANNELS"
    ∷ codes "PUBSUB SHARDNUMSUB" ∷ codes "FUNCTION KILL" ∷ codes "FUNCTION STATS" ∷ [])
    -- to each primary
    ++ rows_with AllMasters
    (codes "DBSIZE" ∷ codes "DEBUG" ∷ codes "FLUSHALL" ∷ codes "FLUSHDB" ∷ codes "FT._ALIASLIST"
    ∷ codes "FT._LIST" ∷ codes "FUNCTION DELETE" ∷ codes "FUNCTION FLUSH"
    ∷ codes "FUNCTION LOAD" ∷ codes "FUNCTION RESTORE" ∷ codes "INFO" ∷ codes "KEYS"
    ∷ codes "MEMORY DOCTOR" ∷ codes "MEMORY MALLOC-STATS" ∷ codes "MEMORY PURGE"
    ∷ codes "MEMORY STATS" ∷ codes "PING" ∷ codes "SCRIPT EXISTS" ∷ codes "UNWATCH"
    ∷ codes "WAIT" ∷ codes "RANDOMKEY" ∷ codes "WAITAOF" ∷ [])
    ++ map (λ row. (row.0, MultiSlot row.1.0)) multi_key_names
    -- to no node
    ++ rows_with Undefined
    (codes "SCAN" ∷ codes "SHUTDOWN" ∷ codes "SLAVEOF" ∷ codes "REPLICAOF" ∷ [])
    -- how many keys there are is argument 2, and the first key is argument 3
    ++ rows_with (CountAt 2)
    (codes "BLMPOP" ∷ codes "BZMPOP" ∷ codes "EVAL" ∷ codes "EVALSHA" ∷ codes "EVALSHA_RO"
    ∷ codes "EVAL_RO" ∷ codes "FCALL" ∷ codes "FCALL_RO" ∷ [])
    -- the key is argument 2
    ++ rows_with (KeyAt 2)
    (codes "BITOP" ∷ codes "MEMORY USAGE" ∷ codes "PFDEBUG" ∷ codes "XGROUP CREATE"
    ∷ codes "XGROUP CREATECONSUMER" ∷ codes "XGROUP DELCONSUMER" ∷ codes "XGROUP DESTROY"
    ∷ codes "XGROUP SETID" ∷ codes "XINFO CONSUMERS" ∷ codes "XINFO GROUPS"
    ∷ codes "XINFO STREAM" ∷ codes "OBJECT ENCODING" ∷ codes "OBJECT FREQ"
    ∷ codes "OBJECT IDLETIME" ∷ codes "OBJECT REFCOUNT" ∷ codes "JSON.DEBUG" ∷ [])
    -- how many keys there are is argument 1, and the first key is argument 2
    ++ rows_with (CountAt 1)
    (codes "LMPOP" ∷ codes "SINTERCARD" ∷ codes "ZDIFF" ∷ codes "ZINTER" ∷ codes "ZINTERCARD"
    ∷ codes "ZMPOP" ∷ codes "ZUNION" ∷ [])
    -- the key follows the argument STREAMS
    ++ rows_with KeyAfterStreams
    (codes "XREAD" ∷ codes "XREADGROUP" ∷ [])
    -- to any node
    ++ rows_with Random
    (codes "ACL DRYRUN" ∷ codes "ACL GENPASS" ∷ codes "ACL GETUSER" ∷ codes "ACL HELP"
    ∷ codes "ACL LIST" ∷ codes "ACL LOG" ∷ codes "ACL USERS" ∷ codes "ACL WHOAMI" ∷ codes "AUTH"
    ∷ codes "BGSAVE" ∷ codes "CLIENT GETNAME" ∷ codes "CLIENT GETREDIR" ∷ codes "CLIENT ID"
    ∷ codes "CLIENT INFO" ∷ codes "CLIENT KILL" ∷ codes "CLIENT PAUSE" ∷ codes "CLIENT REPLY"
    ∷ codes "CLIENT TRACKINGINFO" ∷ codes "CLIENT UNBLOCK" ∷ codes "CLIENT UNPAUSE"
    ∷ codes "CLUSTER COUNT-FAILURE-REPORTS" ∷ codes "CLUSTER INFO" ∷ codes "CLUSTER KEYSLOT"
    ∷ codes "CLUSTER MEET" ∷ codes "CLUSTER MYSHARDID" ∷ codes "CLUSTER NODES"
    ∷ codes "CLUSTER REPLICAS" ∷ codes "CLUSTER RESET" ∷ codes "CLUSTER SET-CONFIG-EPOCH"
    ∷ codes "CLUSTER SHARDS" ∷ codes "CLUSTER SLOTS" ∷ codes "COMMAND" ∷ codes "COMMAND COUNT"
    ∷ codes "COMMAND GETKEYS" ∷ codes "COMMAND LIST" ∷ codes "CONFIG GET" ∷ codes "ECHO"
    ∷ codes "FUNCTION LIST" ∷ codes "LASTSAVE" ∷ codes "LOLWUT" ∷ codes "MODULE LIST"
    ∷ codes "MODULE LOAD" ∷ codes "MODULE LOADEX" ∷ codes "MODULE UNLOAD" ∷ codes "READONLY"
    ∷ codes "READWRITE" ∷ codes "SAVE" ∷ codes "SCRIPT SHOW" ∷ codes "TFCALL"
    ∷ codes "TFCALLASYNC" ∷ codes "TFUNCTION DELETE" ∷ codes "TFUNCTION LIST"
    ∷ codes "TFUNCTION LOAD" ∷ codes "TIME" ∷ [])
    -- a slot number is argument 2
    ++ rows_with (SlotAt 2)
    (codes "CLUSTER ADDSLOTS" ∷ codes "CLUSTER COUNTKEYSINSLOT" ∷ codes "CLUSTER DELSLOTS"
    ∷ codes "CLUSTER DELSLOTSRANGE" ∷ codes "CLUSTER GETKEYSINSLOT" ∷ codes "CLUSTER SETSLOT"
    ∷ [])

-- how a name is routed, if the table has it
unfoldable pub base_routing : List ℕ → Option RouteBy
base_routing name = lookup_name base_routings name

-- the pattern of a name, if its commands are split by slot
abbrev pub pattern_of : Option RouteBy → Option MultiSlotArgPattern
pattern_of (Some (MultiSlot pattern)) = Some pattern
pattern_of _ = None
