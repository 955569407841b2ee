use Rattle.slotroute_serve.proofs.Serving.{answer_status, usage_fault, is_request, touched, no_map, no_memory, no_answer, answered, not_written, run_stopped, ran_to_end}
use Rattle.slotroute_serve.specs.Requests.{Asks, AsksFor}
use Rattle.slotroute_serve.specs.MapLines.{made_in}
use Rattle.slotroute_serve.specs.Output.{IsRunWords}
use Rattle.std.proofs.Common.{is_some, subst, map, string_bytes}
use Rattle.slotroute_serve.proofs.program.run.Goals as goal

pub returns-in_default-clause-answer : goal.returns-in_default-clause-answer
returns-in_default-clause-answer g c = usage_fault (is_some c.args.strategy) _ (g.R.Source.remaining c.args.reader.now) (g.O.Sink.contents c.args.out.now) c.in_default.ensures

pub returns-in_err-made-clause-answer : goal.returns-in_err-made-clause-answer
returns-in_err-made-clause-answer g c =
    no_map (is_some c.args.strategy) _ (g.R.Source.remaining c.args.reader.now) (g.R.Source.remaining c.read_map.new.source) (g.O.Sink.contents c.args.out.now) c.in_err-made.field-0.0 c.from_residual.result
    (is_request (is_some c.args.strategy) _ c.in-Some.request c.in-Some.ensures) c.in_err-made.ensures.map c.in_err-made.ensures.rest c.from_residual.ensures.1

pub returns-in_err-made-clause-untouched : goal.returns-in_err-made-clause-untouched
returns-in_err-made-clause-untouched g c = touched (is_some c.args.strategy) _ _ _ (is_request (is_some c.args.strategy) _ c.in-Some.request c.in-Some.ensures)

pub returns-in_err-map-clause-answer : goal.returns-in_err-map-clause-answer
returns-in_err-map-clause-answer g c =
    no_memory (is_some c.args.strategy) _ (g.R.Source.remaining c.args.reader.now) (g.R.Source.remaining c.read_map.new.source) (g.O.Sink.contents c.args.out.now) c.from_residual-in_err-map.result (is_request (is_some c.args.strategy) _ c.in-Some.request c.in-Some.ensures) c.in_ok-made.ensures.rest c.from_residual-in_err-map.ensures.1

pub returns-in_err-map-clause-untouched : goal.returns-in_err-map-clause-untouched
returns-in_err-map-clause-untouched g c = touched (is_some c.args.strategy) _ _ _ (is_request (is_some c.args.strategy) _ c.in-Some.request c.in-Some.ensures)

pub returns-in_err-text-clause-answer : goal.returns-in_err-text-clause-answer
returns-in_err-text-clause-answer g c =
    let asks : Asks (map string_bytes c.args.words.now) c.in-Answer.question = subst (AsksFor (map string_bytes c.args.words.now)) c.in-Answer.is c.in-Some.ensures in
    no_answer (is_some c.args.strategy) _ c.in-Answer.question (g.R.Source.remaining c.args.reader.now) (g.R.Source.remaining c.read_map.new.source) (g.O.Sink.contents c.args.out.now) (made_in c.in_ok-made.made) c.in_err-text.field-0.0 c.from_residual-in_err-text.result
    asks c.in_ok-made.ensures.map c.in_ok-made.ensures.rest c.in_err-text.ensures c.from_residual-in_err-text.ensures.1

pub returns-in_err-text-clause-untouched : goal.returns-in_err-text-clause-untouched
returns-in_err-text-clause-untouched g c = touched (is_some c.args.strategy) _ _ _ (is_request (is_some c.args.strategy) _ c.in-Some.request c.in-Some.ensures)

pub returns-in_err-emit-clause-answer : goal.returns-in_err-emit-clause-answer
returns-in_err-emit-clause-answer g c =
    let asks : Asks (map string_bytes c.args.words.now) c.in-Answer.question = subst (AsksFor (map string_bytes c.args.words.now)) c.in-Answer.is c.in-Some.ensures in
    let (k, part) = c.in_err-emit.ensures.begun in
    not_written (is_some c.args.strategy) _ (g.R.Source.remaining c.args.reader.now) (g.R.Source.remaining c.read_map.new.source) (g.O.Sink.contents c.args.out.now) (g.O.Sink.contents c.emit.new.writer) (made_in c.in_ok-made.made) c.deref.result.now c.in_ok-text.status k c.from_residual-in_err-emit.result
    c.in_ok-made.ensures.map c.in_ok-made.ensures.rest (rw (c.in_ok-map.ensures.put, ← c.deref.ensures.value) at (c.in_ok-text.ensures _ asks)) part c.from_residual-in_err-emit.ensures.1

pub returns-in_err-emit-clause-untouched : goal.returns-in_err-emit-clause-untouched
returns-in_err-emit-clause-untouched g c = touched (is_some c.args.strategy) _ _ _ (is_request (is_some c.args.strategy) _ c.in-Some.request c.in-Some.ensures)

pub returns-clause-answer : goal.returns-clause-answer
returns-clause-answer g c =
    let asks : Asks (map string_bytes c.args.words.now) c.in-Answer.question = subst (AsksFor (map string_bytes c.args.words.now)) c.in-Answer.is c.in-Some.ensures in
    answered (is_some c.args.strategy) _ (g.R.Source.remaining c.args.reader.now) (g.R.Source.remaining c.read_map.new.source) (g.O.Sink.contents c.args.out.now) (g.O.Sink.contents c.emit.new.writer) (made_in c.in_ok-made.made) c.deref.result.now c.in_ok-text.status
    c.in_ok-made.ensures.map c.in_ok-made.ensures.rest (rw (c.in_ok-map.ensures.put, ← c.deref.ensures.value) at (c.in_ok-text.ensures _ asks)) c.in_ok-emit.ensures.ok

pub returns-clause-status : goal.returns-clause-status
returns-clause-status g c =
    let asks : Asks (map string_bytes c.args.words.now) c.in-Answer.question = subst (AsksFor (map string_bytes c.args.words.now)) c.in-Answer.is c.in-Some.ensures in
    answer_status _ _ _ _ _ (c.in_ok-text.ensures _ asks)

pub returns-clause-asked : goal.returns-clause-asked
returns-clause-asked g c = is_request (is_some c.args.strategy) _ c.in-Some.request c.in-Some.ensures

pub returns-clause-untouched : goal.returns-clause-untouched
returns-clause-untouched g c = touched (is_some c.args.strategy) _ _ _ (is_request (is_some c.args.strategy) _ c.in-Some.request c.in-Some.ensures)

pub returns-in_err-run_told-in-Run-clause-answer : goal.returns-in_err-run_told-in-Run-clause-answer
returns-in_err-run_told-in-Run-clause-answer g c =
    let asks : IsRunWords c.in-Run.direction (map string_bytes c.args.words.now) = subst (AsksFor (map string_bytes c.args.words.now)) c.in-Run.is c.in-Some.ensures in
    run_stopped (is_some c.args.strategy) _ c.in-Run.direction _ (g.R.Source.remaining c.args.reader.now) (g.R.Source.remaining c.read_map.new.source) (g.R.Source.remaining c.run_told.new.reader) (g.O.Sink.contents c.args.out.now) (g.O.Sink.contents c.run_told.new.out) (made_in c.in_ok-made.made) c.in_err-run_told-in-Run.field-0.0 c.from_residual-in_err-run_told-in-Run.result
    asks c.in_ok-made.ensures.next c.in_ok-made.ensures.map c.in_ok-made.ensures.rest (rw c.in_ok-map.ensures.put at c.in_err-run_told-in-Run.ensures.run) c.from_residual-in_err-run_told-in-Run.ensures.1

pub returns-in_err-run_told-in-Run-clause-untouched : goal.returns-in_err-run_told-in-Run-clause-untouched
returns-in_err-run_told-in-Run-clause-untouched g c = touched (is_some c.args.strategy) _ _ _ (is_request (is_some c.args.strategy) _ c.in-Some.request c.in-Some.ensures)

pub returns-in-Run-clause-answer : goal.returns-in-Run-clause-answer
returns-in-Run-clause-answer g c =
    let asks : IsRunWords c.in-Run.direction (map string_bytes c.args.words.now) = subst (AsksFor (map string_bytes c.args.words.now)) c.in-Run.is c.in-Some.ensures in
    ran_to_end (is_some c.args.strategy) _ c.in-Run.direction (g.R.Source.remaining c.args.reader.now) (g.R.Source.remaining c.read_map.new.source) (g.R.Source.remaining c.run_told.new.reader) (g.O.Sink.contents c.args.out.now) (g.O.Sink.contents c.run_told.new.out) (made_in c.in_ok-made.made)
    asks c.in_ok-made.ensures.map c.in_ok-made.ensures.rest (rw c.in_ok-map.ensures.put at c.in_ok-run_told-in-Run.ensures.run)

pub returns-in-Run-clause-asked : goal.returns-in-Run-clause-asked
returns-in-Run-clause-asked g c = is_request (is_some c.args.strategy) _ c.in-Some.request c.in-Some.ensures

pub returns-in-Run-clause-untouched : goal.returns-in-Run-clause-untouched
returns-in-Run-clause-untouched g c = touched (is_some c.args.strategy) _ _ _ (is_request (is_some c.args.strategy) _ c.in-Some.request c.in-Some.ensures)
