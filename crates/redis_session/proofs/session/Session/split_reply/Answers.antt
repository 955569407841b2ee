use Rattle.std.proofs.Common.{ℕ, List, ◌∙◌, map, ap, refl}
use Rattle.std.specs.declared.vec.Vec.{Vec}
use Rattle.std.specs.declared.alloc.Global.{Global}
use Rattle.redis_routing.specs.Names.{names_in}
use Rattle.redis_session.specs.CallReplies.{answers_in}
use Rattle.redis_session.specs.SessionStates.{names}
use Rattle.redis_session.specs.Told.{unfit_reply}
use Rattle.redis_session.proofs.GivenReplies.{split_not_given}
use Rattle.redis_session.proofs.session.Session.split_reply.Goals as goal

pub returns : goal.returns
returns c = (
  unfit_reply,
  refl,
  split_not_given (names_in c.names.result) (names c.args.self.now) c.args.request.now c.deref.result.now (answers_in c.args.state.now.parts) c.in-Err.fault c.names.ensures
      (ap (λ (answers : List (Vec ℕ Global)). map (λ answer. answer.items) answers) c.deref.ensures.value ∙ c.in_ok-answers.ensures)
      c.in-Err.ensures.error c.in-Err.ensures.fault c.in_default.not-Memory,
)
