use Rattle.std.proofs.Common.{◌∙◌, ap, length, refl, sym}
use Rattle.std.proofs.lemmas.List.{length-map}
use Rattle.redis_session.specs.CallReplies.{answers_in}
use Rattle.redis_session.specs.SessionStates.{answer_of}
use Rattle.redis_session.specs.Told.{unfit_reply}
use Rattle.redis_session.proofs.GivenReplies.{nodes_unfit}
use Rattle.redis_session.proofs.session.replying.several_reply.Goals as goal

pub returns : goal.returns
returns c = let parts = c.args.state.now.parts in (
  unfit_reply,
  refl,
  nodes_unfit c.args.policy (answers_in parts) (length c.parts.result.now) c.deref.result.now c.in-Err.fault
      (ap length c.parts.ensures ∙ sym (length-map parts (λ p. answer_of p.phase))) (c.deref.ensures.value ∙ c.in_ok-replies.ensures) c.in-Err.ensures.fault c.in_default.not-Memory,
)
