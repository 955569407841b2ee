use Rattle.std.proofs.Common.{◌≡◌, false, ap, arith, subst, sym, ◌∙◌}
use Rattle.std.proofs.lemmas.Grind.{common_steps}
use Rattle.std.specs.Prelude.{is_none}
use Rattle.std.specs.List.{list_any}
use Rattle.cluster_map.specs.Targets.{addresses_behind}
use Rattle.redis_combiners.specs.Answers.{answers_given, first_error, values_in}
use Rattle.redis_routing.specs.Split.{Split}
use Rattle.redis_cluster.specs.Plan.{ArePartsAnswered, Plan}
use Rattle.redis_commands.specs.Rule.{IsCombined, by_policy, of_parts}
use Rattle.redis_commands.specs.Way.{planned}
use Rattle.redis_commands.proofs.Counts.{counted}
use Rattle.redis_commands.proofs.Listed.{listed}
use Rattle.redis_commands.proofs.Told.{combined_parts, if_told, part_replies}
use Rattle.redis_commands.proofs.plan.CommandPlan.combine.Goals as goal

pub returns-in-Several-clause-counted : goal.returns-in-Several-clause-counted
returns-in-Several-clause-counted g c = λ entries keyspace counts rule served each told.
    let seen = ap (planned (g.R.Routable.args c.self.inside.command.now)) (sym c.in-Several.is) ∙ c.self.view_is in
    let answers = c.in-Several.told.items in
    if_told _ (list_any is_none answers) c.combine_answers.result _ c.combine_answers.ensures.untold
    (λ all. counted (by_policy c.in-Several.policy) (addresses_behind c.deref.result.now) (answers_given answers) entries keyspace counts c.combine_answers.result (c.combine_answers.ensures.reply all)
    (ap (λ p. p.rule) seen ∙ rule) served each (ap (λ p. answers_given p.answers) seen ∙ told))

pub returns-in-Several-clause-listed : goal.returns-in-Several-clause-listed
returns-in-Several-clause-listed g c = λ wanted entries keyspace lists rule served each told.
    let seen = ap (planned (g.R.Routable.args c.self.inside.command.now)) (sym c.in-Several.is) ∙ c.self.view_is in
    let answers = c.in-Several.told.items in
    if_told _ (list_any is_none answers) c.combine_answers.result _ c.combine_answers.ensures.untold
    (λ all. listed (by_policy c.in-Several.policy) (addresses_behind c.deref.result.now) (answers_given answers) wanted entries keyspace lists c.combine_answers.result (c.combine_answers.ensures.reply all)
    (ap (λ p. p.rule) seen ∙ rule) served each (ap (λ p. answers_given p.answers) seen ∙ told))

pub returns-in-Split-clause-reply : goal.returns-in-Split-clause-reply
returns-in-Split-clause-reply g c = λ all.
    let seen = ap (planned (g.R.Routable.args c.self.inside.command.now)) (sym c.in-Split.is) ∙ c.self.view_is in
    let plan = c.into_inner.result in
    let same : plan ≡ c.in-Split.plan.value = grind (arith, common_steps) in
    let told : list_any is_none plan.answers ≡ false = ap (λ (p : Plan). list_any is_none p.answers) same ∙ ap (λ p. list_any is_none p.answers) seen ∙ all in
    subst (λ p. IsCombined p.rule p.targets (answers_given p.answers) c.combine.result) seen
    (subst (λ (p : Plan). IsCombined (of_parts p.split) p.nodes (answers_given p.answers) c.combine.result) same
    (combined_parts plan told plan.nodes c.combine.result c.combine.ensures.joined (λ error. c.combine.ensures.refused error told)))

pub returns-in-Split-clause-unsplit : goal.returns-in-Split-clause-unsplit
returns-in-Split-clause-unsplit g c = λ split form results rule all none answered.
    let seen = ap (planned (g.R.Routable.args c.self.inside.command.now)) (sym c.in-Split.is) ∙ c.self.view_is in
    let plan = c.into_inner.result in
    let same : plan ≡ c.in-Split.plan.value = grind (arith, common_steps) in
    let answers : plan.answers ≡ c.args.self.answers = ap (λ (p : Plan). p.answers) same ∙ ap (λ p. p.answers) seen in
    let of : of_parts plan.split ≡ of_parts split = ap (λ (p : Plan). of_parts p.split) same ∙ ap (λ p. p.rule) seen ∙ rule in
    let own : plan.split ≡ split = cc of in
    c.combine.ensures.unsplit form results (part_replies plan (ap (list_any is_none) answers ∙ all) form results (ap (λ told. first_error (answers_given told)) answers ∙ none)
    (subst (λ (s : Split). ArePartsAnswered s form results (values_in (answers_given plan.answers))) (sym own) (subst (λ told. ArePartsAnswered split form results (values_in (answers_given told))) (sym answers) answered)))
