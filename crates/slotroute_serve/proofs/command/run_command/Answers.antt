use Rattle.resp_core.specs.View.{view}
use Rattle.std.proofs.Common.{map}
use Rattle.memory_nodes.specs.Nodes.{entry_of, registered_in, keyspace_in, trace_in, mark_in}
use Rattle.redis_cluster.specs.State.{state}
use Rattle.slotroute_serve.proofs.RunningCommands.{grown, since, words_run}
use Rattle.slotroute_serve.proofs.command.run_command.Goals as goal

pub slice_bounds-command_lines-count : goal.slice_bounds-command_lines-count
slice_bounds-command_lines-count g c =
    let sent = c.in_ok-reply.ensures.driven.2.delivered.trace in
    grown entry_of c.trace-before.result.now c.trace.result.now _ _ sent.entries c.trace-before.ensures c.trace.ensures sent.grew

pub slice_bounds-command_lines-start : goal.slice_bounds-command_lines-start
slice_bounds-command_lines-start g c = slice_bounds-command_lines-count g c

pub returns-clause-run : goal.returns-clause-run
returns-clause-run g c =
    let old = state (keyspace_in c.args.nodes.now) (trace_in c.args.nodes.now) (mark_in c.args.nodes.now) in
    let new = state (keyspace_in c.drive_command.new.nodes) (trace_in c.drive_command.new.nodes) (mark_in c.drive_command.new.nodes) in
    let (order, ordered, driven) = c.in_ok-reply.ensures.driven in
    words_run _ c.args.direction.now (registered_in c.args.nodes.now) c.args.slot_map.now (map (λ word. word.now) c.args.words.now) c.in_ok-command.command old new order (view c.in_ok-reply.reply) _ _ c.in_ok-command.ensures ordered driven
    (since entry_of c.trace-before.result.now c.trace.result.now old.trace new.trace c.trace-before.ensures c.trace.ensures) c.in_ok-command_lines.ensures
