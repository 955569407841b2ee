use Rattle.std.proofs.Common.{◌≡◌, ◌==◌, true, length, sym, ◌∙◌, arith}
use Rattle.std.proofs.lemmas.Bool.Decides.{nat_tests}
use Rattle.std.specs.VecDeque.{deque_len}
use Rattle.session_core.proofs.OrderTies.{none_left}
use Rattle.session_core.proofs.ordered_parts.leave_bars.Goals as goal

pub returns-then-is_empty : goal.returns-then-is_empty
returns-then-is_empty c =
    let e : (deque_len c.args.bars.now == 0) ≡ true = sym c.is_empty.ensures ∙ c.if-is_empty.true in
    let none : length c.args.bars.now.items ≡ 0 = grind (arith, nat_tests) in
    none_left c.args.place c.args.status c.args.bars.now.items none
