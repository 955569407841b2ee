use Rattle.std.proofs.Common.{◌≡◌, ◌<◌, ap, ◌∙◌, length, refl, sym, arith}
use Rattle.std.proofs.lemmas.Bool.Decides.{nat_tests}
use Rattle.redis_cluster.specs.Unsplit.{put}
use Rattle.memory_nodes.specs.Cells.{tree_value, path_value}
use Rattle.memory_nodes.specs.Undo.{back}
use Rattle.memory_nodes.specs.declared.cells.Values.{Values}
use Rattle.memory_nodes.proofs.Keyspaces.{path-plain, path-other, path-put_plain, path-put_other, cell-back}
use Rattle.memory_nodes.proofs.Puts.{and-back}
use Rattle.memory_nodes.proofs.cells.put_value_back.Goals as goal

pub returns-then-is_empty : goal.returns-then-is_empty
returns-then-is_empty c =
    let path = c.args.path.now in
    let old = c.args.values.now in
    let before = c.args.before in
    let new : Values = record { plain = c.and.result; others = old.others } in
    let none : length path ≡ 0 = grind (arith, nat_tests, c.is_empty.ensures, c.if-is_empty.true) in
    cell-back path old new before (path-put_plain path old new (back before (path_value old path)) none (c.and.ensures ∙ and-back before c.take.result ∙ ap (back before) (c.take.ensures.value ∙ sym (path-plain path old none))) refl)

pub returns-else-is_empty : goal.returns-else-is_empty
returns-else-is_empty c =
    let path = c.args.path.now in
    let old = c.args.values.now in
    let before = c.args.before in
    let new : Values = record { plain = old.plain; others = c.put_back.new.tree } in
    let some : 0 < length path = grind (arith, nat_tests, c.is_empty.ensures, c.if-is_empty.false) in
    cell-back path old new before (path-put_other path old new (back before (path_value old path)) some refl (c.put_back.ensures ∙ ap (λ o. put path (back before o) (tree_value old.others)) (sym (path-other path old some))))
