-- A log owns nothing, so threads may share it.
use denote.RattleType.{RattleType}
use denote.Param.Send.{IsSync, part_keyless}
use Rattle.redis_cluster.proofs.Threads.{log_send}
use Rattle.redis_cluster.specs.contracts.log.Log.{the_row}

pub sync : (A B C : RattleType) → IsSync A → IsSync B → IsSync C → IsSync (the_row A B C)
sync A B C a b c =
    record { shared = λ items at offset κ share. part_keyless (the_row A B C) (log_send A B C) share items at offset }
