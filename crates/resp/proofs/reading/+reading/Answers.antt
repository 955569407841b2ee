use Rattle.std.proofs.Common.{◌≡◌, ℕ, ◌<◌, List, Result, Ok, ap, subst, sym, ◌∙◌, arith}
use Rattle.std.proofs.lemmas.Result.{err_from_is_err_and}
use Rattle.resp_core.specs.Reply.{Reply}
use Rattle.resp_core.proofs.Views.{view-Nil}
use Rattle.resp.specs.declared.fault.Fault.{Fault}
use Rattle.resp.specs.declared.fault.ReadError.TheVariants as errors
use Rattle.resp.specs.Forms.{Answer, answer, answers_in, answer_after}
use Rattle.resp.specs.Reading.{Gives, answer_at, times_at}
use Rattle.resp.proofs.Steps.{ok_is}
use Rattle.resp.proofs.Times.{goes_on, ends, is_done}
use Rattle.resp.proofs.Fronts.{empty, is_flat, too_deep, count_fails, nothing, items_fail, items_read}
use Rattle.resp.proofs.reading.+reading.Goals as goal

pub items_at-returns-in_err-response : goal.items_at-returns-in_err-response
items_at-returns-in_err-response t c =
    let p = err_from_is_err_and c.from_residual-in_err-response.result c.from_residual-in_err-response.ensures.1 in
    rw (p.1, p.2) (ends (answer_at c.args.levels) c.in_err-response.field-0.0 (answers_in c.loop.items) c.args.count c.loop.counter c.loop.rest.now (times_at (answer_at c.args.levels) c.args.count c.args.bytes.now) c.loop-test.true c.in_err-response.ensures c.loop.invariant)

pub items_at-loop-preserved : goal.items_at-loop-preserved
items_at-loop-preserved t c =
    let e : answer_after (answers_in c.loop.items) (answer c.in_ok-response.response) ≡ answers_in c.in_ok-items.items = ok_is _ _ c.in_ok-items.ensures in
    rw (sym e) (goes_on (answer_at c.args.levels) (answers_in c.loop.items) c.args.count c.loop.counter c.loop.rest.now (answer c.in_ok-response.response) c.in_ok-response.after.now (times_at (answer_at c.args.levels) c.args.count c.args.bytes.now) c.loop-test.true c.in_ok-response.ensures c.loop.invariant)

pub items_at-returns : goal.items_at-returns
items_at-returns t c = is_done (answer_at c.args.levels) (answers_in c.loop.items) c.args.count c.loop.counter c.loop.rest.now (times_at (answer_at c.args.levels) c.args.count c.args.bytes.now) c.loop-test.false c.loop.invariant

pub response_at-returns-in_default : goal.response_at-returns-in_default
response_at-returns-in_default t c = empty c.args.levels c.args.bytes.now c.in_default.len_below

pub response_at-returns-then-mark-ne42 : goal.response_at-returns-then-mark-ne42
response_at-returns-then-mark-ne42 t c =
    subst (λ (f : Result (Answer × List ℕ) Fault). Gives {Y = Answer × List ℕ} (λ x. (answer x.0, x.1.now)) c.flat_of.result f)
    (is_flat c.args.levels c.args.bytes.now c.line_of.result.0.now c.line_of.result.1.now c.in-len1-up.len_at_least c.line_of.ensures.text c.line_of.ensures.after c.if-mark-ne42.true)
    c.flat_of.ensures

pub response_at-returns-then-levels-eq0 : goal.response_at-returns-then-levels-eq0
response_at-returns-then-levels-eq0 t c = too_deep c.args.levels c.args.bytes.now c.in-len1-up.len_at_least c.if-mark-ne42.false c.if-levels-eq0.true

pub response_at-returns-in_err-count : goal.response_at-returns-in_err-count
response_at-returns-in_err-count t c =
    let above : 0 < c.args.levels = omega arith in
    let p = err_from_is_err_and c.from_residual.result c.from_residual.ensures.1 in
    rw (p.1, p.2) (count_fails (errors.Fault c.in_err-count.field-0.0) c.args.levels c.args.bytes.now c.line_of.result.0.now c.line_of.result.1.now c.in-len1-up.len_at_least c.if-mark-ne42.false above c.line_of.ensures.text c.line_of.ensures.after c.in_err-count.ensures)

pub response_at-returns-in_default-count : goal.response_at-returns-in_default-count
response_at-returns-in_default-count t c =
    let above : 0 < c.args.levels = omega arith in
    nothing c.args.levels c.args.bytes.now c.line_of.result.0.now c.line_of.result.1.now c.in_ok-count.rest.now c.in_ok-count.count c.in-len1-up.len_at_least c.if-mark-ne42.false above c.line_of.ensures.text c.line_of.ensures.after c.in_ok-count.ensures c.in_default-count.is
    ∙ ap (λ (r : Reply). Ok (Ok r, c.in_ok-count.rest.now)) (sym view-Nil)

pub response_at-returns-in_err-items : goal.response_at-returns-in_err-items
response_at-returns-in_err-items t c =
    let above : 0 < c.args.levels = omega arith in
    let p = err_from_is_err_and c.from_residual-in_err-items.result c.from_residual-in_err-items.ensures.1 in
    rw (p.1, p.2) (items_fail c.in_err-items.field-0.0 c.args.levels c.args.bytes.now c.line_of.result.0.now c.line_of.result.1.now c.in_ok-count.rest.now c.in_ok-count.count c.in-Some.count c.in-len1-up.len_at_least c.if-mark-ne42.false above c.line_of.ensures.text c.line_of.ensures.after c.in_ok-count.ensures c.in-Some.is c.in_err-items.ensures)

pub response_at-returns : goal.response_at-returns
response_at-returns t c =
    let above : 0 < c.args.levels = omega arith in
    items_read c.args.levels c.args.bytes.now c.line_of.result.0.now c.line_of.result.1.now c.in_ok-count.rest.now c.in_ok-count.count c.in-Some.count (answers_in c.in_ok-items.items) c.in_ok-items.rest.now c.in-len1-up.len_at_least c.if-mark-ne42.false above c.line_of.ensures.text c.line_of.ensures.after c.in_ok-count.ensures c.in-Some.is c.in_ok-items.ensures
    ∙ ap (λ (a : Answer). Ok (a, c.in_ok-items.rest.now)) (sym c.gathered.ensures)
