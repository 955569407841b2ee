use Rattle.resp.proofs.Messages.{form_message}
use Rattle.resp.proofs.scanning.reply_len.Goals as goal

pub returns-clause-replies : goal.returns-clause-replies
returns-clause-replies c = λ levels a form rest is e. c.scan.ensures.only (c.new-progress.ensures.right c.args.bytes.now) form rest (form_message levels a form is) e
