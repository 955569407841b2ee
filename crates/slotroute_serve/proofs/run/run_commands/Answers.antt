use Rattle.std.proofs.Common.{◌++◌, ◌∷◌, [], ◌∙◌, is_some, refl, arith}
use Rattle.memory_nodes.specs.Nodes.{registered_in, keyspace_in}
use Rattle.redis_bytes.specs.NameLines.{fields_of}
use Rattle.slotroute_serve.proofs.Ending.{unread_caused, refused_caused, stops_as, reader_stops, text_stops, not_begun, emit_stops}
use Rattle.slotroute_serve.proofs.Reading.{HasLine}
use Rattle.slotroute_serve.proofs.Running.{run_under, run_more, run_ended, stopped_in_line, stopped_before_line}
use Rattle.slotroute_serve.proofs.Writing.{grows}
use Rattle.slotroute_serve.proofs.run.run_commands.Goals as goal

pub returns-in_err-read_only-clause-run : goal.returns-in_err-read_only-clause-run
returns-in_err-read_only-clause-run g c =
    stops_as (is_some c.args.strategy) c.args.direction.now c.args.registry c.args.slot_map.now c.args.first (g.R.Source.remaining c.args.reader.now) (g.R.Source.remaining c.args.reader.now) (g.O.Sink.contents c.args.out.now) (g.O.Sink.contents c.args.out.now) _ c.from_residual.result
    (not_begun (is_some c.args.strategy) c.args.direction.now c.args.registry c.args.slot_map.now c.args.first (g.R.Source.remaining c.args.reader.now) (g.O.Sink.contents c.args.out.now)) c.from_residual.ensures.1

pub returns-in_err-next_line-clause-run : goal.returns-in_err-next_line-clause-run
returns-in_err-next_line-clause-run g c = grind (arith, reader_stops (is_some c.args.strategy) c.args.direction.now c.args.registry c.args.slot_map.now c.args.first c.in_err-next_line.field-0.0 (g.R.Source.remaining c.args.reader.now) (g.R.Source.remaining c.next_line.new.source) (g.O.Sink.contents c.args.out.now) (g.O.Sink.contents c.loop-number.out) c.loop-number.invariant.text c.from_residual-in_err-next_line.result, is_some c.args.strategy, stopped_in_line (is_some c.args.strategy) c.args.direction.now c.args.registry c.args.slot_map.now (g.R.Source.remaining c.args.reader.now) (g.R.Source.remaining c.loop-number.reader) (g.R.Source.remaining c.next_line.new.source) c.args.first c.loop-number.number (keyspace_in c.loop-number.nodes) c.loop-number.invariant.text c.loop-number.invariant.on c.in_err-next_line.ensures.stops)

pub returns-in_err-next_line-clause-cause : goal.returns-in_err-next_line-clause-cause
returns-in_err-next_line-clause-cause g c =
    unread_caused _ _ c.from_residual-in_err-next_line.result c.in_err-next_line.field-0.0 c.from_residual-in_err-next_line.ensures.1 c.in_err-next_line.ensures.failed

pub returns-then-not-branch-clause-run : goal.returns-then-not-branch-clause-run
returns-then-not-branch-clause-run g c = (
  c.loop-number.invariant.text,
  c.loop-number.invariant.written,
  run_ended (is_some c.args.strategy) c.args.direction.now c.args.registry c.args.slot_map.now (g.R.Source.remaining c.args.reader.now) (g.R.Source.remaining c.loop-number.reader) (g.R.Source.remaining c.next_line.new.source) c.args.first c.loop-number.number (keyspace_in c.loop-number.nodes) c.loop-number.invariant.text
      c.loop-number.invariant.on (rw c.if-not-branch.true at c.in_ok-next_line.ensures.there) c.in_ok-next_line.ensures.rest,
)

pub returns-in-Err-clause-run : goal.returns-in-Err-clause-run
returns-in-Err-clause-run g c =
    let line : HasLine (g.R.Source.remaining c.loop-number.reader) c.next_line.new.line.items = record { there = rw c.if-not-branch.false at c.in_ok-next_line.ensures.there; text = c.in_ok-next_line.ensures.text } in
    rw c.at_line.ensures
    (text_stops (is_some c.args.strategy) c.args.direction.now c.args.registry c.args.slot_map.now c.args.first c.loop-number.number (g.R.Source.remaining c.args.reader.now) (g.R.Source.remaining c.loop-number.reader) (g.R.Source.remaining c.next_line.new.source) (g.O.Sink.contents c.args.out.now) (g.O.Sink.contents c.loop-number.out) (keyspace_in c.loop-number.nodes) c.loop-number.invariant.text
    c.next_line.new.line.items c.in-Err.fault c.loop-number.invariant.written c.loop-number.invariant.on line c.in_ok-next_line.ensures.rest (rw (c.deref.ensures.value, c.loop-number.invariant.registered) at c.in-Err.ensures.refused))

pub returns-in-Err-clause-cause : goal.returns-in-Err-clause-cause
returns-in-Err-clause-cause g c = rw c.at_line.ensures (refused_caused _ _ c.loop-number.number c.in-Err.fault)

pub returns-in_err-emit-in-Ok-clause-run : goal.returns-in_err-emit-in-Ok-clause-run
returns-in_err-emit-in-Ok-clause-run g c =
    let line : HasLine (g.R.Source.remaining c.loop-number.reader) c.next_line.new.line.items = record { there = rw c.if-not-branch.false at c.in_ok-next_line.ensures.there; text = c.in_ok-next_line.ensures.text } in
    let (k, part) = c.in_err-emit-in-Ok.ensures.begun in
    stops_as (is_some c.args.strategy) c.args.direction.now c.args.registry c.args.slot_map.now c.args.first (g.R.Source.remaining c.args.reader.now) (g.R.Source.remaining c.next_line.new.source) (g.O.Sink.contents c.args.out.now) (g.O.Sink.contents c.emit.new.writer) _ c.from_residual-in_err-emit-in-Ok.result
    (emit_stops (is_some c.args.strategy) c.args.direction.now c.args.registry c.args.slot_map.now c.args.first c.loop-number.number (g.R.Source.remaining c.args.reader.now) (g.R.Source.remaining c.loop-number.reader) (g.R.Source.remaining c.next_line.new.source) (g.O.Sink.contents c.args.out.now) (g.O.Sink.contents c.loop-number.out) (g.O.Sink.contents c.emit.new.writer)
    (keyspace_in c.loop-number.nodes) (keyspace_in c.line_text.new.nodes) c.loop-number.invariant.text c.in-Ok.text.items c.next_line.new.line.items k
    c.loop-number.invariant.written c.loop-number.invariant.on line (run_under (is_some c.args.strategy) c.args.direction.now (registered_in c.loop-number.nodes) c.args.registry c.args.slot_map.now (fields_of c.next_line.new.line.items ∷ []) (keyspace_in c.loop-number.nodes) (keyspace_in c.line_text.new.nodes) c.in-Ok.text.items c.loop-number.invariant.registered (rw c.deref.ensures.value at c.in-Ok.ensures.run)) c.in_ok-next_line.ensures.rest
    (rw c.deref-in-Ok.ensures.value at part))
    c.from_residual-in_err-emit-in-Ok.ensures.1

pub loop-number-preserved : goal.loop-number-preserved
loop-number-preserved g c =
    let line : HasLine (g.R.Source.remaining c.loop-number.reader) c.next_line.new.line.items = record { there = rw c.if-not-branch.false at c.in_ok-next_line.ensures.there; text = c.in_ok-next_line.ensures.text } in
    record {
      registered = c.line_text.ensures.registered ∙ c.loop-number.invariant.registered;
      willing = c.line_text.ensures.willing;
      text = c.loop-number.invariant.text ++ c.in-Ok.text.items;
      written = grows (g.O.Sink.contents c.args.out.now) (g.O.Sink.contents c.loop-number.out) (g.O.Sink.contents c.emit.new.writer) c.loop-number.invariant.text c.in-Ok.text.items _ c.loop-number.invariant.written (rw c.deref-in-Ok.ensures.value at c.in_ok-emit-in-Ok.ensures.ok) refl;
      on = run_more (is_some c.args.strategy) c.args.direction.now c.args.registry c.args.slot_map.now (g.R.Source.remaining c.args.reader.now) (g.R.Source.remaining c.loop-number.reader) (g.R.Source.remaining c.next_line.new.source) c.args.first c.loop-number.number (keyspace_in c.loop-number.nodes) (keyspace_in c.line_text.new.nodes) c.loop-number.invariant.text c.in-Ok.text.items c.next_line.new.line.items
          c.loop-number.invariant.on line (run_under (is_some c.args.strategy) c.args.direction.now (registered_in c.loop-number.nodes) c.args.registry c.args.slot_map.now (fields_of c.next_line.new.line.items ∷ []) (keyspace_in c.loop-number.nodes) (keyspace_in c.line_text.new.nodes) c.in-Ok.text.items c.loop-number.invariant.registered (rw c.deref.ensures.value at c.in-Ok.ensures.run)) c.in_ok-next_line.ensures.rest;
    }

pub returns-clause-run : goal.returns-clause-run
returns-clause-run g c = grind (arith, stopped_before_line, is_some)
