use Rattle.std.proofs.Common.{◌≡◌, ◌∙◌, ap, sym}
use Rattle.session_machine.specs.Part.{phase_of}
use Rattle.redis_session.specs.CallReplies.{cause_of, effect_on}
use Rattle.redis_session.specs.Told.{effect_of}
use Rattle.redis_session.specs.declared.told.ErrorCause.TheVariants.{NoTries}
use Rattle.redis_session.proofs.GivenReplies.{error_given}
use Rattle.redis_session.proofs.session.replying.fault_reply.Goals as goal

pub returns-in-Err : goal.returns-in-Err
returns-in-Err c =
    let effect = c.effect_of-effect.result in
    let acts : effect ≡ effect_on c.args.state.now.parts = c.effect_of-effect.ensures ∙ ap effect_of (c.deref.ensures.value ∙ c.in_ok-fates_of.ensures) in
    let is : NoTries ≡ cause_of c.args.part.now.phase = ap cause_of (ap phase_of (sym c.in-Refused.is) ∙ c.phase.ensures) in
    error_given c.args.call c.args.part.now.phase effect (effect_on c.args.state.now.parts) NoTries is acts

pub returns : goal.returns
returns c =
    let effect = c.effect_of-effect.result in
    let acts : effect ≡ effect_on c.args.state.now.parts = c.effect_of-effect.ensures ∙ ap effect_of (c.deref.ensures.value ∙ c.in_ok-fates_of.ensures) in
    error_given c.args.call c.args.part.now.phase effect (effect_on c.args.state.now.parts) c.cause_of.result c.cause_of.ensures acts
