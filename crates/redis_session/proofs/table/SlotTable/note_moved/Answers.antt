use Rattle.std.proofs.Common.{◌≡◌, ◌+◌, arith}
use Rattle.std.proofs.lemmas.Grind.{common_steps}
use Rattle.redis_session.proofs.NodeTables.{learns_moved, keeps_node, counted_more}
use Rattle.redis_session.proofs.table.SlotTable.note_moved.Goals as goal

pub returns-clause-learns : goal.returns-clause-learns
returns-clause-learns c =
    let t = c.self.inside in
    let count : c.in-Some.count ≡ t.count + 1 = grind (arith, common_steps, c.in-Some.ensures) in
    rw (← c.self.view_is) (learns_moved c.args.slot c.args.node t.map t.count c.in-Some.count t.moved c.insert.new.self c.in_ok-insert.ensures.updates count)

pub returns-clause-others : goal.returns-clause-others
returns-clause-others c = keeps_node c.args.slot c.args.node c.args.self.now _ (returns-clause-learns c)

pub invariant_of-self-2 : goal.invariant_of-self-2
invariant_of-self-2 c =
    let t = c.self.inside in
    let count : c.in-Some.count ≡ t.count + 1 = grind (arith, common_steps, c.in-Some.ensures) in
    counted_more c.args.slot c.args.node t.count c.in-Some.count t.moved c.insert.new.self c.in_ok-insert.ensures.updates count c.self.invariant
