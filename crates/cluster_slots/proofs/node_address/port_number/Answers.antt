use Rattle.cluster_slots.proofs.Numerals.{number-ok, number-err}
use Rattle.cluster_slots.proofs.node_address.port_number.Goals as goal

pub returns-in-Ok : goal.returns-in-Ok
returns-in-Ok c = number-ok 16 c.args.text.now c.in-Ok.number c.in-Ok.ensures.value.0

pub returns-in-Err : goal.returns-in-Err
returns-in-Err c = number-err 16 c.args.text.now c.in-Err.ensures.value.0
