use Rattle.std.proofs.Common.{sym, ◌∙◌, [], ◌∷◌}
use Rattle.session_machine.proofs.Prefixes.{found_in_turn}
use Rattle.session_machine.proofs.part.is_redirect_of.Goals as goal

pub returns-in_default-rest_after-2 : goal.returns-in_default-rest_after-2
returns-in_default-rest_after-2 c =
    found_in_turn c.args.reply.now c.in-Some.rest.now c.in-Some-rest_after.number.now c.args.name.now c.as_bytes-digits.result.now _ (32 ∷ []) _ (sym (c.as_bytes-digits.ensures.value ∙ c.format.ensures.text)) c.in-Some.ensures.some c.in-Some-rest_after.ensures.some (c.in_default-rest_after-2.ensures.none (32 ∷ []))

pub returns : goal.returns
returns c =
    found_in_turn c.args.reply.now c.in-Some.rest.now c.in-Some-rest_after.number.now c.args.name.now c.as_bytes-digits.result.now _ (32 ∷ []) _ (sym (c.as_bytes-digits.ensures.value ∙ c.format.ensures.text)) c.in-Some.ensures.some c.in-Some-rest_after.ensures.some (c.in-Some-rest_after-2.ensures.some (32 ∷ []) ∙ sym c.starts_with.ensures.value)
