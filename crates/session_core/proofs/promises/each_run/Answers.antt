use Rattle.session_core.specs.State.{start}
use Rattle.session_core.proofs.Queues.{grows, as_queues}
use Rattle.session_core.proofs.OnLinks.{has_run}
use Rattle.session_core.proofs.promises.each_run.Goals as goal

pub returns-clause-grows : goal.returns-clause-grows
returns-clause-grows c = grows

pub returns-clause-queues : goal.returns-clause-queues
returns-clause-queues c = λ events s run. as_queues events start s run

pub returns-clause-links : goal.returns-clause-links
returns-clause-links c = λ events s number channel run is. has_run number events s channel run is
