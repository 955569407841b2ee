-- What a log owns is nothing that belongs to one thread.
use denote.RattleType.{RattleType}
use denote.Param.Send.{IsSend}
use Rattle.redis_cluster.specs.contracts.log.Log.{the_row}

pub log_send : (A B C : RattleType) → IsSend (the_row A B C)
log_send A B C = record { owned = λ d vs. ((λ vss. (tt, ((λ uss. (tt, tt)), tt))), tt); leaving = λ k f vs. tt }
