use Rattle.std.proofs.Common.{◌≡◌, ◌+◌, ◌-◌, length, drop}
use Rattle.session_core.specs.Inner.Heard.{all_counts, HaveBytes}
use Rattle.session_core.proofs.heard.forget.Given as goal

abbrev pub invariant-loop-left : goal.invariant-loop-left
invariant-loop-left l = record {
  rest : drop l.left (all_counts l.earlier.items) ≡ drop l.fn.count (all_counts l.fn.earlier.items);
  left : l.left - length (all_counts l.earlier.items) ≡ l.fn.count - length (all_counts l.fn.earlier.items);
  have_bytes : HaveBytes l.earlier.items;
}

abbrev pub decreases-loop-left : goal.decreases-loop-left
decreases-loop-left l = l.left + length l.earlier.items
