use Rattle.std.proofs.Common.{ap, sym, ◌∙◌, nat_eq}
use Rattle.std.specs.List.{starts_with}
use Rattle.session_machine.proofs.Prefixes.{starts_more, starts_never}
use Rattle.session_machine.proofs.part.rest_after.Goals as goal

pub returns-clause-some : goal.returns-clause-some
returns-clause-some c = λ more. starts_more c.args.bytes.now c.args.prefix.now more (sym c.starts_with.ensures.value ∙ c.if-not-starts_with.false) ∙ ap (λ bytes. starts_with nat_eq bytes more) (sym c.split_at.ensures.back)

pub returns-then-not-starts_with-clause-none : goal.returns-then-not-starts_with-clause-none
returns-then-not-starts_with-clause-none c = λ more. starts_never c.args.bytes.now c.args.prefix.now more (sym c.starts_with.ensures.value ∙ c.if-not-starts_with.true)
