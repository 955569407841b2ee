use Rattle.memory_nodes.proofs.TakenApart.{taken_apart}
use Rattle.memory_nodes.proofs.whole_command.WholeCommand.new.Goals as goal

pub returns : goal.returns
returns c =
    let known = c.args.registry.now in
    let run = c.split_at.result.1.now in
    let tuples = c.split_at-2.result.0.now in
    let shared = c.split_at-2.result.1.now in
    record {
      command = taken_apart known c.name_words.result c.args.args.now run tuples shared c.args.cmd.now c.own_len.result c.args.name.now c.registered_as-registered.result c.shape_of-pattern.result.0 c.shape_of-pattern.result.1 c.registered_as-registered.ensures c.name_words.ensures c.requires.args c.split_at.ensures.back c.own_len.ensures.own c.split_at-2.ensures.front c.split_at-2.ensures.back c.requires.name c.shape_of-pattern.ensures c.requires.whole;
    }
