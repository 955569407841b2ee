-- Events lead from one state that is reached to another.
use Rattle.std.proofs.Common.{◌++◌, [], ◌∷◌, refl}
use Rattle.session_core.specs.State.{State, Event, start, Happens, May, after}
use Rattle.session_core.proofs.Queues.{grows, as_queues}
use Rattle.session_core.proofs.Waiting.{IsSingle, single}
use Rattle.session_machine.specs.Ties.{IsReached}

pub reached_start : IsReached start
reached_start = ([], refl)

pub reached_after : (old new : State) (e : Event) → IsReached old → Happens old e new → IsReached new
reached_after old new e reached happens = (reached.0 ++ e ∷ [], grows reached.0 e old new reached.1 happens)

pub reached_by : (s : State) (e : Event) → IsReached s → May e s → IsReached (after e s)
reached_by s e reached may = reached_after s (after e s) e reached (record { may = may; is = refl })

-- a part waits where it is on its way, and nowhere else
pub reached_single : (s : State) → IsReached s → IsSingle s
reached_single s reached = single reached.0 s (as_queues reached.0 start s reached.1)
