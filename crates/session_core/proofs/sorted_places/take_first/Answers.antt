use Rattle.std.proofs.Common.{◌≡◌, ◌<◌, ◌++◌, ◌==◌, true, false, List, ℕ, length, sym, ap, ◌∙◌, arith}
use Rattle.std.proofs.lemmas.Bool.Decides.{nat_tests}
use Rattle.std.specs.VecDeque.{deque_len}
use Rattle.session_core.proofs.Ascending.{first_dropped, second_dropped}
use Rattle.session_core.proofs.sorted_places.take_first.Goals as goal

pub returns-then-is_empty-clause-taken : goal.returns-then-is_empty-clause-taken
returns-then-is_empty-clause-taken c =
    let e : (deque_len c.args.places.now == 0) ≡ true = sym c.is_empty.ensures ∙ c.if-is_empty.true in
    let none : length c.args.places.now.items ≡ 0 = grind (arith, nat_tests) in
    ap (λ (ys : List ℕ). c.args.places.now.items ++ ys) c.pop_front.ensures.rest ∙ sym (second_dropped c.args.places.now.items c.args.others.now.items none)

pub returns-clause-taken : goal.returns-clause-taken
returns-clause-taken c =
    let e : (deque_len c.args.places.now == 0) ≡ false = sym c.is_empty.ensures ∙ c.if-is_empty.false in
    let some : 0 < length c.args.places.now.items = grind (arith, nat_tests) in
    ap (λ (xs : List ℕ). xs ++ c.args.others.now.items) c.pop_front-2.ensures.rest ∙ sym (first_dropped c.args.places.now.items c.args.others.now.items some)
