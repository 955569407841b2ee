use Rattle.std.proofs.Common.{sym, ap, ◌∙◌}
use Rattle.std.proofs.lemmas.Result.{err_from_is_err_and}
use Rattle.resp.specs.Reading.{rest_of}
use Rattle.resp.proofs.RequestGrammar.{rest_more, bulk_fails, bulks_done}
use Rattle.resp.proofs.requests.after_bulks.Goals as goal

pub returns-in_err-after : goal.returns-in_err-after
returns-in_err-after c =
    let p = err_from_is_err_and c.from_residual.result c.from_residual.ensures.1 in
    rw (p.1, p.2) (sym c.loop.invariant ∙ ap rest_of (bulk_fails c.args.count c.loop.counter c.loop.rest.now c.loop-test.true c.in_err-after.field-0.0 c.in_err-after.ensures))

pub loop-preserved : goal.loop-preserved
loop-preserved c = sym (rest_more c.args.count c.loop.counter c.loop.rest.now c.loop-test.true c.in_ok-after.field-0-0.now c.in_ok-after.after.now c.in_ok-after.ensures) ∙ c.loop.invariant

pub returns : goal.returns
returns c = sym c.loop.invariant ∙ ap rest_of (bulks_done c.args.count c.loop.counter c.loop.rest.now c.loop-test.false)
