use Rattle.slotroute_serve.specs.MapLines.{IsNodeField}
use Rattle.slotroute_serve.proofs.Reading.{unpaired, paired_more}
use Rattle.slotroute_serve.proofs.input.nodes_of.Goals as goal

pub returns-in_default : goal.returns-in_default
returns-in_default c = λ addresses.
    unpaired IsNodeField c.args.fields.now addresses c.loop-field.field-index _ c.loop-field-test.true (rw c.in_default.is at c.in_ok-node.ensures)

pub loop-field-preserved : goal.loop-field-preserved
loop-field-preserved c =
    rw c.in_ok-push.ensures.items
    (paired_more IsNodeField c.args.fields.now c.loop-field.nodes.items c.loop-field.field-index _ c.in-Some.node c.loop-field-test.true c.loop-field.invariant (rw c.in-Some.is at c.in_ok-node.ensures))
