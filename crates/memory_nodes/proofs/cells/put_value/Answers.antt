use Rattle.std.proofs.Common.{◌≡◌, ◌<◌, [], ap, ◌∙◌, Some, length, option_map, refl, sym, arith}
use Rattle.std.proofs.lemmas.Grind.{common_steps}
use Rattle.std.proofs.lemmas.Bool.Decides.{nat_tests}
use Rattle.redis_cluster.specs.Unsplit.{put}
use Rattle.memory_nodes.specs.Cells.{cell_of}
use Rattle.memory_nodes.specs.declared.cells.Values.{Values}
use Rattle.memory_nodes.proofs.Keyspaces.{path-plain, path-other, path-put_other, cell-put, cell-same}
use Rattle.memory_nodes.proofs.Undoing.{at-err}
use Rattle.memory_nodes.proofs.cells.put_value.Goals as goal

pub returns-then-is_empty-clause-values : goal.returns-then-is_empty-clause-values
returns-then-is_empty-clause-values c = grind (arith, common_steps)

pub returns-then-is_empty-clause-before : goal.returns-then-is_empty-clause-before
returns-then-is_empty-clause-before c =
    let none : length c.args.path.now ≡ 0 = grind (arith, nat_tests, c.is_empty.ensures, c.if-is_empty.true) in
    ap (option_map (λ v. v.items)) (c.replace.ensures.value ∙ sym (path-plain c.args.path.now c.args.values.now none))

pub returns-clause-values : goal.returns-clause-values
returns-clause-values c =
    let path = c.args.path.now in
    let old = c.args.values.now in
    let new : Values = record { plain = old.plain; others = c.put_at.new.tree } in
    let some : 0 < length path = grind (arith, nat_tests, c.is_empty.ensures, c.if-is_empty.false) in
    cell-put path old new (Some c.in_ok-copied.copied) (path-put_other path old new (Some c.in_ok-copied.copied) some refl c.in_ok-before.ensures.tree)
    ∙ ap (λ v. put path (Some v) (cell_of old)) (c.in_ok-copied.ensures.items_if_clones_equal (λ x y e. e))

pub returns-clause-before : goal.returns-clause-before
returns-clause-before c =
    let some : 0 < length c.args.path.now = grind (arith, nat_tests, c.is_empty.ensures, c.if-is_empty.false) in
    ap (option_map (λ v. v.items)) (c.in_ok-before.ensures.before ∙ sym (path-other c.args.path.now c.args.values.now some))

pub returns-in_err-before-clause-memory : goal.returns-in_err-before-clause-memory
returns-in_err-before-clause-memory c =
    let old = c.args.values.now in
    let new : Values = record { plain = old.plain; others = c.put_at.new.tree } in
    at-err c.from_residual-in_err-before.result _ (cell-same old new (ap (put [] old.plain) c.in_err-before.ensures.memory))
