use Rattle.std.proofs.Common.{◌∙◌, refl, subst}
use Rattle.redis_session.specs.Leads.{IsRefused}
use Rattle.redis_session.specs.SessionStates.{SessionState}
use Rattle.slotroute_c.proofs.session_calls.slotroute_session_begin.Goals as goal

pub returns-in-Err-clause-refused : goal.returns-in-Err-clause-refused
returns-in-Err-clause-refused c = λ _. (
  c.in-Err.refusal,
  c.code_of_refusal.ensures.code,
  c.in-Err.ensures.refused ∙ c.get_mut.ensures.value,
  refl,
  subst (λ (s : SessionState). IsRefused s c.args.request.now c.in-Err.refusal) c.get_mut.ensures.value c.in-Err.ensures.why,
)
