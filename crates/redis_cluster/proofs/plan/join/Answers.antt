use Rattle.std.proofs.Common.{Ok, Err, map, sym, subst, ◌∙◌, inl, inr, ⊎_elim, None, Some}
use Rattle.std.proofs.lemmas.List.{length-map}
use Rattle.std.proofs.lemmas.Result.{MatchResult-weaker}
use Rattle.resp_core.specs.View.{view}
use Rattle.resp_core.specs.declared.error.ErrorKind.{ErrorKind}
use Rattle.redis_cluster.proofs.Joined.{IsOutcomeOf, arrays_are, first_is, number_is}
use Rattle.redis_cluster.proofs.SplitTuples.{is_split_to}
use Rattle.redis_cluster.proofs.plan.join.Goals as goal

pub returns-in-CombineArrays : goal.returns-in-CombineArrays
returns-in-CombineArrays g c =
    let split = c.args.split.now in
    let policy = sym c.policy.ensures.policy ∙ c.in-CombineArrays.is in
    let replies = map view c.args.replies.items in
    let are = arrays_are split (is_split_to split c.routes.ensures.split) replies (length-map c.args.replies.items view ∙ c.requires.each) in
    record {
      joined = λ form form_is. MatchResult-weaker c.combine_and_sort_array_results.result c.combine_and_sort_array_results.ensures.answer
          (λ value. are form c.pattern.result c.routes.result.now (Ok (view value)) form_is policy c.pattern.ensures c.routes.ensures.routes)
          (λ error. ⊎_elim (λ memory. inl (memory, policy)) (λ refused. inr (are form c.pattern.result c.routes.result.now (Err error.kind) form_is policy c.pattern.ensures c.routes.ensures.routes refused)));
    }

pub returns-in-Aggregate : goal.returns-in-Aggregate
returns-in-Aggregate g c =
    let split = c.args.split.now in
    let policy = sym c.policy.ensures.policy ∙ c.in-Aggregate.is in
    let replies = map view c.args.replies.items in
    record {
      joined = λ form form_is. MatchResult-weaker c.aggregate.result c.aggregate.ensures.answer
          (λ value e. number_is split form c.in-Aggregate.op replies (Some (view value)) form_is policy e)
          (λ error e. inr (subst (λ (kind : ErrorKind). IsOutcomeOf split replies form (Err kind)) (sym e.1) (number_is split form c.in-Aggregate.op replies None form_is policy e.0)));
    }

pub returns-in_default : goal.returns-in_default
returns-in_default g c = record {
  joined = λ form form_is. first_is c.args.split.now form c.policy.result (map view c.args.replies.items) (view c.first_of.result) form_is (sym c.policy.ensures.policy) c.in_default.not-CombineArrays c.in_default.not-Aggregate c.first_of.ensures;
}
