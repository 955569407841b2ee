use Rattle.std.proofs.Common.{◌≡◌, ◌++◌, List, map, take, drop}
use Rattle.resp_core.specs.View.{view, view_pair}
use Rattle.resp_core.specs.Reply.{Reply, pairs_of}
use Rattle.resp_core.specs.Copying.{inside_pairs}
use Rattle.resp_core.proofs.value.copying.take_pairs.Given as goal

abbrev pub invariant-loop-item : goal.invariant-loop-item
invariant-loop-item l =
    (map view_pair l.pairs.items ≡ map view_pair (take l._item-index l._item-items))
    × ((rest : List Reply) → map view l.initial.copies.items ≡ rest ++ inside_pairs (pairs_of (map view_pair l._item-items)) → map view l.copies.items ≡ rest ++ inside_pairs (pairs_of (map view_pair (drop l._item-index l._item-items))))
