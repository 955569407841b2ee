-- The names of the commands that a shared link takes. Each has exactly one reply, leaves the connection
-- as it was, and does not wait. They are in the groups of the documentation of Redis.
use Rattle.std.specs.Prelude.{ℕ, List, [], ◌∷◌, ◌++◌, Option, Some, codes, if◌then◌else◌}
use Rattle.redis_routing.specs.Lookup.{has_name, lookup_name, rows_with}
use Rattle.redis_session.specs.declared.kind.CommandKind.{CommandKind}
use Rattle.redis_session.specs.declared.kind.CommandKind.TheVariants.{Plain, Script, Free, Stream}

-- strings
abbrev pub strings : List (List ℕ)
strings =
    codes "APPEND" ∷ codes "DECR" ∷ codes "DECRBY" ∷ codes "GET" ∷ codes "GETDEL" ∷
    codes "GETEX" ∷ codes "GETRANGE" ∷ codes "GETSET" ∷ codes "INCR" ∷ codes "INCRBY" ∷
    codes "INCRBYFLOAT" ∷ codes "LCS" ∷ codes "MGET" ∷ codes "MSET" ∷ codes "MSETNX" ∷
    codes "PSETEX" ∷ codes "SET" ∷ codes "SETEX" ∷ codes "SETNX" ∷ codes "SETRANGE" ∷
    codes "STRLEN" ∷ codes "SUBSTR" ∷ []

-- bitmaps
abbrev pub bitmaps : List (List ℕ)
bitmaps =
    codes "BITCOUNT" ∷ codes "BITFIELD" ∷ codes "BITFIELD_RO" ∷ codes "BITOP" ∷ codes "BITPOS" ∷
    codes "GETBIT" ∷ codes "SETBIT" ∷ []

-- lists
abbrev pub lists : List (List ℕ)
lists =
    codes "LINDEX" ∷ codes "LINSERT" ∷ codes "LLEN" ∷ codes "LMOVE" ∷ codes "LMPOP" ∷
    codes "LPOP" ∷ codes "LPOS" ∷ codes "LPUSH" ∷ codes "LPUSHX" ∷ codes "LRANGE" ∷ codes "LREM" ∷
    codes "LSET" ∷ codes "LTRIM" ∷ codes "RPOP" ∷ codes "RPOPLPUSH" ∷ codes "RPUSH" ∷
    codes "RPUSHX" ∷ []

-- sets
abbrev pub sets : List (List ℕ)
sets =
    codes "SADD" ∷ codes "SCARD" ∷ codes "SDIFF" ∷ codes "SDIFFSTORE" ∷ codes "SINTER" ∷
    codes "SINTERCARD" ∷ codes "SINTERSTORE" ∷ codes "SISMEMBER" ∷ codes "SMEMBERS" ∷
    codes "SMISMEMBER" ∷ codes "SMOVE" ∷ codes "SPOP" ∷ codes "SRANDMEMBER" ∷ codes "SREM" ∷
    codes "SSCAN" ∷ codes "SUNION" ∷ codes "SUNIONSTORE" ∷ []

-- hashes
abbrev pub hashes : List (List ℕ)
hashes =
    codes "HDEL" ∷ codes "HEXISTS" ∷ codes "HEXPIRE" ∷ codes "HEXPIREAT" ∷ codes "HEXPIRETIME" ∷
    codes "HGET" ∷ codes "HGETALL" ∷ codes "HGETDEL" ∷ codes "HGETEX" ∷ codes "HINCRBY" ∷
    codes "HINCRBYFLOAT" ∷ codes "HKEYS" ∷ codes "HLEN" ∷ codes "HMGET" ∷ codes "HMSET" ∷
    codes "HPERSIST" ∷ codes "HPEXPIRE" ∷ codes "HPEXPIREAT" ∷ codes "HPEXPIRETIME" ∷
    codes "HPTTL" ∷ codes "HRANDFIELD" ∷ codes "HSCAN" ∷ codes "HSET" ∷ codes "HSETEX" ∷
    codes "HSETNX" ∷ codes "HSTRLEN" ∷ codes "HTTL" ∷ codes "HVALS" ∷ []

-- sorted sets
abbrev pub sorted_sets : List (List ℕ)
sorted_sets =
    codes "ZADD" ∷ codes "ZCARD" ∷ codes "ZCOUNT" ∷ codes "ZDIFF" ∷ codes "ZDIFFSTORE" ∷
    codes "ZINCRBY" ∷ codes "ZINTER" ∷ codes "ZINTERCARD" ∷ codes "ZINTERSTORE" ∷
    codes "ZLEXCOUNT" ∷ codes "ZMPOP" ∷ codes "ZMSCORE" ∷ codes "ZPOPMAX" ∷ codes "ZPOPMIN" ∷
    codes "ZRANDMEMBER" ∷ codes "ZRANGE" ∷ codes "ZRANGEBYLEX" ∷ codes "ZRANGEBYSCORE" ∷
    codes "ZRANGESTORE" ∷ codes "ZRANK" ∷ codes "ZREM" ∷ codes "ZREMRANGEBYLEX" ∷
    codes "ZREMRANGEBYRANK" ∷ codes "ZREMRANGEBYSCORE" ∷ codes "ZREVRANGE" ∷
    codes "ZREVRANGEBYLEX" ∷ codes "ZREVRANGEBYSCORE" ∷ codes "ZREVRANK" ∷ codes "ZSCAN" ∷
    codes "ZSCORE" ∷ codes "ZUNION" ∷ codes "ZUNIONSTORE" ∷ []

-- streams, except those that may wait
abbrev pub streams : List (List ℕ)
streams =
    codes "XACK" ∷ codes "XADD" ∷ codes "XAUTOCLAIM" ∷ codes "XCLAIM" ∷ codes "XDEL" ∷
    codes "XGROUP" ∷ codes "XINFO" ∷ codes "XLEN" ∷ codes "XPENDING" ∷ codes "XRANGE" ∷
    codes "XREVRANGE" ∷ codes "XSETID" ∷ codes "XTRIM" ∷ []

-- geospatial indices
abbrev pub geospatial : List (List ℕ)
geospatial =
    codes "GEOADD" ∷ codes "GEODIST" ∷ codes "GEOHASH" ∷ codes "GEOPOS" ∷ codes "GEORADIUS" ∷
    codes "GEORADIUSBYMEMBER" ∷ codes "GEORADIUSBYMEMBER_RO" ∷ codes "GEORADIUS_RO" ∷
    codes "GEOSEARCH" ∷ codes "GEOSEARCHSTORE" ∷ []

-- HyperLogLog
abbrev pub counters : List (List ℕ)
counters =
    codes "PFADD" ∷ codes "PFCOUNT" ∷ codes "PFMERGE" ∷ []

-- JSON
abbrev pub json : List (List ℕ)
json =
    codes "JSON.ARRAPPEND" ∷ codes "JSON.ARRINDEX" ∷ codes "JSON.ARRINSERT" ∷
    codes "JSON.ARRLEN" ∷ codes "JSON.ARRPOP" ∷ codes "JSON.ARRTRIM" ∷ codes "JSON.CLEAR" ∷
    codes "JSON.DEL" ∷ codes "JSON.FORGET" ∷ codes "JSON.GET" ∷ codes "JSON.MERGE" ∷
    codes "JSON.MGET" ∷ codes "JSON.MSET" ∷ codes "JSON.NUMINCRBY" ∷ codes "JSON.NUMMULTBY" ∷
    codes "JSON.OBJKEYS" ∷ codes "JSON.OBJLEN" ∷ codes "JSON.SET" ∷ codes "JSON.STRAPPEND" ∷
    codes "JSON.STRLEN" ∷ codes "JSON.TOGGLE" ∷ codes "JSON.TYPE" ∷ []

-- keys of any type
abbrev pub generic : List (List ℕ)
generic =
    codes "COPY" ∷ codes "DEL" ∷ codes "DUMP" ∷ codes "EXISTS" ∷ codes "EXPIRE" ∷
    codes "EXPIREAT" ∷ codes "EXPIRETIME" ∷ codes "KEYS" ∷ codes "OBJECT" ∷ codes "PERSIST" ∷
    codes "PEXPIRE" ∷ codes "PEXPIREAT" ∷ codes "PEXPIRETIME" ∷ codes "PTTL" ∷ codes "RANDOMKEY" ∷
    codes "RENAME" ∷ codes "RENAMENX" ∷ codes "RESTORE" ∷ codes "SORT" ∷ codes "SORT_RO" ∷
    codes "TOUCH" ∷ codes "TTL" ∷ codes "TYPE" ∷ codes "UNLINK" ∷ []

-- publishing, and what is subscribed to
abbrev pub channels : List (List ℕ)
channels =
    codes "PUBLISH" ∷ codes "PUBSUB CHANNELS" ∷ codes "PUBSUB NUMPAT" ∷ codes "PUBSUB NUMSUB" ∷
    codes "SPUBLISH" ∷ []

-- scripts and functions that are kept, not run
abbrev pub libraries : List (List ℕ)
libraries =
    codes "FUNCTION DELETE" ∷ codes "FUNCTION FLUSH" ∷ codes "FUNCTION LIST" ∷
    codes "FUNCTION LOAD" ∷ codes "SCRIPT EXISTS" ∷ codes "SCRIPT FLUSH" ∷ codes "SCRIPT KILL" ∷
    codes "SCRIPT LOAD" ∷ []

-- servers
abbrev pub servers : List (List ℕ)
servers =
    codes "COMMAND" ∷ codes "DBSIZE" ∷ codes "FLUSHALL" ∷ codes "FLUSHDB" ∷ codes "MEMORY USAGE" ∷ []

-- nodes refuse these before they run them: with `-MOVED`, say
unfoldable pub plain_names : List (List ℕ)
plain_names =
    strings ++ bitmaps ++ lists ++ sets ++ hashes ++ sorted_sets ++ streams ++ geospatial
    ++ counters ++ json ++ generic ++ channels ++ libraries ++ servers

-- they run code, which can make up any error
abbrev pub scripts : List (List ℕ)
scripts =
    codes "EVAL" ∷ codes "EVALSHA" ∷ codes "EVALSHA_RO" ∷ codes "EVAL_RO" ∷ codes "FCALL" ∷
    codes "FCALL_RO" ∷ codes "TFCALL" ∷ codes "TFCALLASYNC" ∷ []

-- nobody can see when they ran
abbrev pub free_names : List (List ℕ)
free_names = codes "ECHO" ∷ codes "PING" ∷ codes "TIME" ∷ []

-- with the word BLOCK they wait
abbrev pub reading_streams : List (List ℕ)
reading_streams = codes "XREAD" ∷ codes "XREADGROUP" ∷ []

unfoldable pub other_names : List (List ℕ × CommandKind)
other_names = rows_with Script scripts ++ rows_with Free free_names ++ rows_with Stream reading_streams

-- the kind of a name in upper case
unfoldable pub kind_of_name : List ℕ → Option CommandKind
kind_of_name name = if has_name plain_names name then Some Plain else lookup_name other_names name
