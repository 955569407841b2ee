use Rattle.std.proofs.Common.{◌∙◌, sym, subst}
use Rattle.redis_bytes.specs.Replies.{AreReplies}
use Rattle.redis_session.proofs.reply.split_reply.Goals as goal

pub returns-clause-unsplit : goal.returns-clause-unsplit
returns-clause-unsplit c = λ none split reply_form results parts is answered are.
    c.combine.ensures.unsplit split reply_form results parts is answered (subst (AreReplies parts) (sym (c.deref.ensures.value ∙ c.in_ok-replies.ensures)) are)
