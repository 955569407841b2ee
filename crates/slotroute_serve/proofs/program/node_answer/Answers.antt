use Rattle.std.proofs.Common.{◌∙◌, codes}
use Rattle.cluster_map.specs.Address.{display_text}
use Rattle.slotroute_serve.proofs.Serving.{slot_line_is, found_node, found_none}
use Rattle.slotroute_serve.proofs.program.node_answer.Goals as goal

pub returns-in_ok-format-in-Some : goal.returns-in_ok-format-in-Some
returns-in_ok-format-in-Some c =
    found_node c.args.map.now c.args.key.now _ c.with_key-route.result c.slot-slot.result c.in-Some.node.now c.with_key-route.ensures.slot c.with_key-route.ensures.addr c.slot-slot.ensures c.in-Some.ensures.node
    (c.in_ok-format-in-Some.ensures.ok ∙ slot_line_is c.slot-slot.result (display_text c.in-Some.node.now))

pub returns-in_ok-format-in-None : goal.returns-in_ok-format-in-None
returns-in_ok-format-in-None c =
    found_none c.args.map.now c.args.key.now _ c.with_key-route.result c.slot-slot.result c.with_key-route.ensures.slot c.slot-slot.ensures c.in-None.ensures.node
    (c.in_ok-format-in-None.ensures.ok ∙ slot_line_is c.slot-slot.result (codes "none"))
