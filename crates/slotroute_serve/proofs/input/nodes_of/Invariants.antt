use Rattle.std.proofs.Common.{map, take}
use Rattle.std.specs.List.{AllZip}
use Rattle.slotroute_serve.specs.MapLines.{IsNodeField}
use Rattle.slotroute_serve.proofs.input.nodes_of.Given as goal

-- the nodes so far are those of the fields so far
abbrev pub invariant-loop-field : goal.invariant-loop-field
invariant-loop-field l = AllZip IsNodeField (map (λ field. field.now) (take l.field-index l.fields)) l.nodes.items
