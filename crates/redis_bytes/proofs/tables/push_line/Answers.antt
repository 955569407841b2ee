use Rattle.std.proofs.Common.{◌≡◌, true, ℕ, List, lit<, subst, sym, ◌∙◌}
use Rattle.std.specs.Prelude.{Contains}
use Rattle.std.proofs.lemmas.Grind.{get_or_default_zero}
use Rattle.std.proofs.lemmas.Str.Pattern.{contains_char}
use Rattle.redis_bytes.proofs.tables.push_line.Goals as goal

pub returns-clause-plain : goal.returns-clause-plain
returns-clause-plain c = λ has.
    let there = subst (λ (t : List ℕ). Contains t 10) (sym c.host.ensures) has in
    let found : c.contains.result ≡ true = (contains_char 10 c.host.result.now c.contains.result c.contains.ensures.cases (lit< tt)).1 there.0 there.1 (sym (get_or_default_zero c.host.result.now there.0 10 there.1) ∙ there.2) in
    absurd (cc (found, c.if-contains.false))
