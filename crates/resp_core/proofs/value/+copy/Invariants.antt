use Rattle.std.proofs.Common.{◌≡◌, take, map}
use Rattle.resp_core.specs.View.{view, view_pair}
use Rattle.resp_core.proofs.value.+copy.Given as goal

abbrev pub invariant-copy_items-loop-item : goal.invariant-copy_items-loop-item
invariant-copy_items-loop-item l = map view l.copies.items ≡ map view (take l.item-index l.item-items)

abbrev pub invariant-copy_pairs-loop-key : goal.invariant-copy_pairs-loop-key
invariant-copy_pairs-loop-key l = map view_pair l.copies.items ≡ map view_pair (take l.key-index l.key-items)
