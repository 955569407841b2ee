use Rattle.std.proofs.Common.{subst}
use Rattle.memory_nodes.specs.Nodes.{EndsSo}
use Rattle.memory_nodes.specs.declared.planned.Planned.{Planned}
use Rattle.memory_nodes.proofs.nodes.MemoryNodesNodes.send.Goals as goal

pub returns-in-Ok-answer-clause-willing : goal.returns-in-Ok-answer-clause-willing
returns-in-Ok-answer-clause-willing c = λ ending may. subst (λ (next : Planned). EndsSo next ending) c.in-Answer.is ((c.in-Ok.ensures ending).0 may)
