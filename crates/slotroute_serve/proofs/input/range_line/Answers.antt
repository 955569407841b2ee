use Rattle.slotroute_serve.proofs.Reading.{no_primary, no_replicas}
use Rattle.slotroute_serve.proofs.input.range_line.Goals as goal

pub returns-in_default-3 : goal.returns-in_default-3
returns-in_default-3 c = λ range. no_primary c.args.fields.now _ range (rw c.in_default-3.is at c.in_ok-primary.ensures)

pub returns-in_default-4 : goal.returns-in_default-4
returns-in_default-4 c = λ range. no_replicas c.args.fields.now range (rw c.in_default-4.is at c.in_ok-replicas.ensures)
