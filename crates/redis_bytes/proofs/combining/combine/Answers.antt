use Rattle.std.proofs.Common.{◌≡◌, List, ℕ, Some, None, map, option_map, sym, ap, subst, ◌∙◌}
use Rattle.std.proofs.lemmas.Option.{none-some}
use Rattle.std.proofs.lemmas.Result.{err_from_is_err_and}
use Rattle.redis_routing.specs.Names.{names_in}
use Rattle.redis_routing.specs.Complete.{multi_slot_routes}
use Rattle.redis_routing.specs.Split.{Split}
use Rattle.redis_bytes.specs.Requests.{IsSplitOf}
use Rattle.redis_cluster.specs.Plan.{ArePartsAnswered}
use Rattle.redis_bytes.proofs.Splits.{same_split}
use Rattle.redis_bytes.proofs.combining.combine.Goals as goal
use Rattle.redis_cluster.proofs.Constructors.{of_some}

pub returns-in_err-command-clause-unsplit : goal.returns-in_err-command-clause-unsplit
returns-in_err-command-clause-unsplit c = λ split reply_form results parts is answered are.
    let p = err_from_is_err_and c.from_residual.result c.from_residual.ensures.1 in
    rw (p.1, p.2) (c.in_err-command.ensures.only is.words is.is)

pub returns-in_default-clause-unsplit : goal.returns-in_default-clause-unsplit
returns-in_default-clause-unsplit c = λ split reply_form results parts is answered are.
    let same = c.in_ok-command.ensures.only is.words is.is in
    let none : None ≡ multi_slot_routes (names_in c.args.names) (map Some c.in_ok-command.command) = sym (ap (option_map (λ s. s.routes)) c.in_default.is) ∙ c.in_ok-split.ensures.routes in
    absurd (none-some split.routes (none ∙ ap (λ (ws : List (List ℕ)). multi_slot_routes (names_in c.args.names) (map Some ws)) same ∙ sym is.split_is.routes))

pub returns-clause-unsplit : goal.returns-clause-unsplit
returns-clause-unsplit c = λ split reply_form results parts is answered are.
    let names = names_in c.args.names in
    let same = c.in_ok-command.ensures.only is.words is.is in
    let own = c.in-Some.split in
    let found = c.in_ok-split.field-0 in
    let new = c.in_ok-split.ensures in
    let split_is : IsSplitOf names (map Some c.in_ok-command.command) own = record {
      arguments = of_some _ found own c.in-Some.is new.arguments;
      routes = sym (ap (option_map (λ s. s.routes)) c.in-Some.is) ∙ new.routes;
      pattern = of_some _ found own c.in-Some.is new.pattern;
      policy = of_some _ found own c.in-Some.is new.policy;
    } in
    let of_words : IsSplitOf names (map Some is.words) own = subst (λ (ws : List (List ℕ)). IsSplitOf names (map Some ws) own) same split_is in
    let one = same_split names (map Some is.words) split own is.split_is of_words in
    c.join_parts.ensures.unsplit reply_form results parts (subst (λ (s : Split). ArePartsAnswered s reply_form results parts) one answered) are
