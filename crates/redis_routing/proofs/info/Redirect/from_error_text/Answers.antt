use Rattle.std.specs.Prelude.{codes}
use Rattle.redis_routing.proofs.RedirectTexts.{stripped, no_moved, no_ask}
use Rattle.redis_routing.proofs.info.Redirect.from_error_text.Goals as goal

pub returns-in_default-slot_and_node : goal.returns-in_default-slot_and_node
returns-in_default-slot_and_node c = record {
  read =
      no_moved c.args.answering.now c.args.text.now c.in-Some.told.now (stripped (codes "MOVED ") c.args.text.now c.in-Some.told.now c.in-Some.ensures.cases) c.in_default-slot_and_node.ensures;
}

pub returns-in_default-slot_and_node-2 : goal.returns-in_default-slot_and_node-2
returns-in_default-slot_and_node-2 c = record {
  read =
      no_ask c.args.answering.now c.args.text.now c.in-Some-strip_prefix.told.now (stripped (codes "ASK ") c.args.text.now c.in-Some-strip_prefix.told.now c.in-Some-strip_prefix.ensures.cases) c.in_default-slot_and_node-2.ensures;
}
