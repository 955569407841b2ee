-- A log owns nothing, so it may go to another thread.
use denote.RattleType.{RattleType}
use denote.Param.Send.{IsSend}
use Rattle.redis_cluster.proofs.Threads.{log_send}
use Rattle.redis_cluster.specs.contracts.log.Log.{the_row}

pub send : (A B C : RattleType) → IsSend A → IsSend B → IsSend C → IsSend (the_row A B C)
send A B C a b c = log_send A B C
