use Rattle.std.proofs.Common.{◌≡◌, ◌++◌, take, codes}
use Rattle.std.specs.List.{flat_map}
use Rattle.resp_core.specs.View.{view}
use Rattle.slotroute_serve.specs.Printed.{printed}
use Rattle.slotroute_serve.proofs.printing.+printing.Given as goal

-- after the first, the items so far were added
abbrev pub invariant-push_items-loop-item : goal.invariant-push_items-loop-item
invariant-push_items-loop-item l = l.text.items ≡ l.initial.text.items ++ flat_map (λ item. codes ", " ++ printed (view item)) (take l.item-index l.rest)
