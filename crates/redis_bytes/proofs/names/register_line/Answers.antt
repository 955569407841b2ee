use Rattle.std.proofs.Common.{rules, sym, ap, ◌∙◌, option_map}
use borrow.Author.Tests.{tests}
use Rattle.redis_bytes.proofs.NameLines.{too_few, asks_to}
use Rattle.redis_bytes.proofs.names.register_line.Goals as goal

pub returns-in_default-clause-bad : goal.returns-in_default-clause-bad
returns-in_default-clause-bad c = λ _ next. too_few c.args.fields.now c.args.registry.now next c.in_default.len_below

pub returns-in-Ok-clause-good : goal.returns-in-Ok-clause-good
returns-in-Ok-clause-good c = λ _. record {
  name = c.in-Some.name.items;
  registered = (c.in-Some-Some.pattern, c.in-Some-Some.policy);
  asks = asks_to c.args.fields.now _ _ _ c.in-len3-up.len_at_least (search (rules, tests)) (sym c.pattern_by.ensures ∙ c.in-Some-Some.is-0) (sym c.policy_by.ensures ∙ c.in-Some-Some.is-1) (sym c.in_ok-name.ensures ∙ ap (option_map (λ n. n.items)) c.in-Some.is);
  done = record { accepted = rw c.deref.ensures.value at c.in-Ok.ensures.accepted; rows = rw c.deref.ensures.value at c.in-Ok.ensures.registered };
}
