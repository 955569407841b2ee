use Rattle.std.proofs.Common.{◌≡◌, ◌<◌, ◌∙◌, length, sym, arith}
use Rattle.std.proofs.lemmas.Bool.Decides.{nat_tests}
use Rattle.memory_nodes.proofs.Keyspaces.{path-plain, path-other}
use Rattle.memory_nodes.proofs.cells.Values.get.Goals as goal

pub returns-then-is_empty : goal.returns-then-is_empty
returns-then-is_empty c =
    let none : length c.args.path.now ≡ 0 = grind (arith, nat_tests, c.is_empty.ensures, c.if-is_empty.true) in
    c.as_ref.ensures.value ∙ sym (path-plain c.args.path.now c.args.self.now none)

pub returns : goal.returns
returns c =
    let some : 0 < length c.args.path.now = grind (arith, nat_tests, c.is_empty.ensures, c.if-is_empty.false) in
    c.get.ensures.value ∙ sym (path-other c.args.path.now c.args.self.now some)
