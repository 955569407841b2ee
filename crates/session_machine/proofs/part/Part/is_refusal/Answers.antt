use Rattle.std.proofs.Common.{sym, ◌∙◌}
use Rattle.session_machine.proofs.Prefixes.{no_refusal}
use Rattle.session_machine.proofs.part.Part.is_refusal.Goals as goal

pub returns-then-not-starts_with : goal.returns-then-not-starts_with
returns-then-not-starts_with c = sym (no_refusal c.args.self.now c.args.reply.now (sym c.starts_with.ensures.value ∙ c.if-not-starts_with.true))
