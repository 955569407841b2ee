use Rattle.std.proofs.Common.{◌≡◌, ◌++◌, drop, map}
use Rattle.resp_core.specs.Reply.{pairs_of}
use Rattle.resp_core.specs.View.{view, view_pair}
use Rattle.redis_bytes.specs.Several.{flat_items}
use Rattle.redis_bytes.proofs.several.flat_items.Given as goal

-- the items so far, and those of the pairs that follow
abbrev pub invariant-loop-key : goal.invariant-loop-key
invariant-loop-key l =
    map view l.items.items ++ flat_items (pairs_of (map view_pair (drop l.key-index l.entries))) ≡ flat_items (pairs_of (map view_pair l.entries))
