use Rattle.std.proofs.Common.{◌≡◌, List, ℕ, Ok, subst, sym, rules}
use Rattle.std.proofs.lemmas.Grind.{common_steps}
use Rattle.resp_core.specs.View.{view}
use Rattle.resp.specs.Forms.{form, IsForm}
use Rattle.resp.proofs.Grammar.{written}
use Rattle.resp.proofs.writing.write.Goals as goal

pub returns-clause-readable : goal.returns-clause-readable
returns-clause-readable c =
    let spelt : c.push_value.new.out.items ≡ form (view c.args.value.now) = search (rules, common_steps) in
    subst (λ (bytes : List ℕ). IsForm 32 (Ok (view c.args.value.now)) bytes) (sym spelt) (written 32 (view c.args.value.now) c.in_ok-push_value.ensures.form c.in_ok-push_value.ensures.depth)
