use Rattle.std.proofs.Common.{ap}
use Rattle.slotroute_serve.proofs.Serving.{answers_node, answers_split}
use Rattle.slotroute_serve.proofs.program.answer.Goals as goal

pub returns-in_ok-line-in-Node : goal.returns-in_ok-line-in-Node
returns-in_ok-line-in-Node c =
    answers_node c.args.registry.now c.args.map.now c.args.question.now c.in-Node.key c.into_bytes.result.items _ c.in_ok-line-in-Node.status c.in-Node.is (ap (λ v. v.items) c.into_bytes.ensures.value) c.in_ok-line-in-Node.ensures

pub returns-in-Split : goal.returns-in-Split
returns-in-Split c = answers_split c.args.registry.now c.args.map.now c.args.question.now c.in-Split.command c.split_answer.result c.in-Split.is c.split_answer.ensures
