use Rattle.std.proofs.Common.{◌∙◌}
use Rattle.redis_session.proofs.Redirects.{error_text, redirect_read}
use Rattle.redis_session.proofs.session.taking.redirect_in.Goals as goal

pub returns : goal.returns
returns c =
    let rest = c.in-Some.ensures.cases in
    let text = c.in-Some-strip_suffix.ensures.cases in
    redirect_read c.args.host.now c.in-Ok.text.now c.args.reply.now c.from_error_text.result
    (error_text 1 _ c.args.reply.now c.in-Some.rest.now c.in-Ok.text.now rest.0 rest.1 text.0 (c.in-Ok.ensures.cases.0 ∙ text.1)) c.from_error_text.ensures.read
