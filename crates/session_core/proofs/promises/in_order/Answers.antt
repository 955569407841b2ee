use Rattle.session_core.proofs.Ordering.{in_order}
use Rattle.session_core.proofs.Outcomes.{parts_apart}
use Rattle.session_core.proofs.promises.in_order.Goals as goal

pub returns-clause-order : goal.returns-clause-order
returns-clause-order c = λ events s first second run began_first began_second caller calls order effect_first effect_second.
    in_order first second events s (record { caller = caller; calls = calls; order = order }) run began_first began_second effect_first effect_second

pub returns-clause-apart : goal.returns-clause-apart
returns-clause-apart c = λ events s first second run one two same lt. parts_apart events s first second run one two same lt
