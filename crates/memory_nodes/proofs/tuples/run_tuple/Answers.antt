use Rattle.std.proofs.Common.{◌++◌, ◌∷◌, [], ap, ◌∙◌, arith}
use Rattle.std.proofs.lemmas.Grind.{common_steps}
use Rattle.memory_nodes.specs.Cells.{keyspace_of}
use Rattle.memory_nodes.specs.Undo.{before_all}
use Rattle.memory_nodes.proofs.Undoing.{before-push}
use Rattle.memory_nodes.proofs.tuples.run_tuple.Goals as goal

pub returns-in_ok-change-in-Write-clause-undo : goal.returns-in_ok-change-in-Write-clause-undo
returns-in_ok-change-in-Write-clause-undo c kept =
    let change = c.in_ok-change-in-Write.change in
    let new = keyspace_of c.write.new.cells in
    let old = c.args.changes.now.items in
    ap (λ cs. before_all cs new) (c.push_reserved.ensures.items ∙ ap (λ cs. cs ++ change ∷ []) c.reserve.ensures.items)
    ∙ before-push old change new
    ∙ ap (before_all old) c.in_ok-change-in-Write.ensures.undo

pub returns-in_ok-change-in-WriteAtPath-clause-undo : goal.returns-in_ok-change-in-WriteAtPath-clause-undo
returns-in_ok-change-in-WriteAtPath-clause-undo c kept = grind (arith, common_steps, before-push)

pub returns-in-Remove-clause-cells : goal.returns-in-Remove-clause-cells
returns-in-Remove-clause-cells c = grind (arith, common_steps)

pub returns-in_ok-change-in-Write-clause-cells : goal.returns-in_ok-change-in-Write-clause-cells
returns-in_ok-change-in-Write-clause-cells c = grind (arith, common_steps)

pub returns-in_ok-change-in-WriteAtPath-clause-cells : goal.returns-in_ok-change-in-WriteAtPath-clause-cells
returns-in_ok-change-in-WriteAtPath-clause-cells c = grind (arith, common_steps)
