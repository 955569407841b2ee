-- The names of the commands that a cluster pipeline refuses.
use Rattle.std.specs.Prelude.{ℕ, List, [], ◌∷◌, Bool, codes}
use Rattle.redis_routing.specs.Lookup.{has_name}

-- the refused names; one with a space is met only by a first argument that holds the space
abbrev pub refused_names : List (List ℕ)
refused_names =
    codes "BGREWRITEAOF" ∷ codes "BGSAVE" ∷ codes "BITOP" ∷ codes "BRPOPLPUSH" ∷ codes "CLIENT" ∷
    codes "CLIENT GETNAME" ∷ codes "CLIENT KILL" ∷ codes "CLIENT LIST" ∷ codes "CLIENT SETNAME" ∷
    codes "CONFIG" ∷ codes "CONFIG GET" ∷ codes "CONFIG RESETSTAT" ∷ codes "CONFIG REWRITE" ∷
    codes "CONFIG SET" ∷ codes "DBSIZE" ∷ codes "ECHO" ∷ codes "FLUSHALL" ∷ codes "FLUSHDB" ∷
    codes "INFO" ∷ codes "KEYS" ∷ codes "LASTSAVE" ∷ codes "MGET" ∷ codes "MOVE" ∷ codes "MSET" ∷
    codes "MSETNX" ∷ codes "MSETEX" ∷ codes "PING" ∷ codes "PUBLISH" ∷ codes "RANDOMKEY" ∷
    codes "RENAME" ∷ codes "RENAMENX" ∷ codes "RPOPLPUSH" ∷ codes "SAVE" ∷ codes "SCAN" ∷
    codes "SCRIPT" ∷ codes "SCRIPT EXISTS" ∷ codes "SCRIPT FLUSH" ∷ codes "SCRIPT KILL" ∷
    codes "SCRIPT LOAD" ∷ codes "SDIFF" ∷ codes "SDIFFSTORE" ∷ codes "SENTINEL" ∷
    codes "SENTINEL GET MASTER ADDR BY NAME" ∷ codes "SENTINEL MASTER" ∷ codes "SENTINEL MASTERS" ∷
    codes "SENTINEL MONITOR" ∷ codes "SENTINEL REMOVE" ∷ codes "SENTINEL SENTINELS" ∷
    codes "SENTINEL SET" ∷ codes "SENTINEL SLAVES" ∷ codes "SHUTDOWN" ∷ codes "SINTER" ∷
    codes "SINTERSTORE" ∷ codes "SLAVEOF" ∷ codes "SLOWLOG" ∷ codes "SLOWLOG GET" ∷
    codes "SLOWLOG LEN" ∷ codes "SLOWLOG RESET" ∷ codes "SMOVE" ∷ codes "SORT" ∷ codes "SUNION" ∷
    codes "SUNIONSTORE" ∷ codes "TIME" ∷ []

-- whether a pipeline refuses commands of this name
unfoldable pub is_refused : List ℕ → Bool
is_refused name = has_name refused_names name
