-- Answers, if no target is missing.
use Rattle.std.proofs.Common.{◌≡◌, ◌⊎◌, List, true, false, Option, Some, None, Ok, Err, map, refl, sym, subst, arith}
use Rattle.std.proofs.lemmas.Grind.{common_steps}
use Rattle.std.specs.Prelude.{Bool, IfOk, MatchResult, Result, is_none}
use Rattle.std.specs.List.{list_any}
use Rattle.resp_core.specs.ErrorParts.{ErrorParts, out_of_memory}
use Rattle.resp_core.specs.View.{view}
use Rattle.resp_core.specs.declared.value.Value.{Value}
use Rattle.cluster_slots.specs.Address.{Address}
use Rattle.redis_combiners.specs.Answers.{answers_given, first_error, values_in, values_told}
use Rattle.redis_routing.specs.declared.policy.ResponsePolicy.TheVariants.{CombineArrays}
use Rattle.redis_cluster.specs.MultiKey.{ReplyForm}
use Rattle.redis_cluster.specs.Plan.{Plan, ArePartReplies, ArePartsAnswered, IsMadeOfParts}
use Rattle.redis_cluster.specs.Unsplit.{TupleResult}
use Rattle.redis_cluster.proofs.Told.{all_values, each_value}
use Rattle.redis_commands.specs.Rule.{of_parts, IsCombined}

-- what holds of a success, if there is none while an answer is missing
pub if_told : {T E : Type 0} (P : T → Type 0) (untold : Bool) (result : Result T E) (error : E) → (untold ≡ true → result ≡ Err error) → (untold ≡ false → IfOk result P) → IfOk result P
if_told P true result error missing there = subst (λ r. IfOk r P) (sym (missing refl)) tt
if_told P false result error missing there = there refl

module _ (plan : Plan) (told : list_any is_none plan.answers ≡ false) where
  -- the one reply of a split command is joined of the values, or it is the first error
  pub combined_parts : (targets : List Address) (result : Result Value ErrorParts) → ((replies : List Value) → plan.answers ≡ values_told replies → MatchResult result
      (λ value. IsMadeOfParts plan.split (map view replies) (Ok (view value)))
      (λ error. ((error ≡ out_of_memory) × (plan.split.policy ≡ CombineArrays)) ⊎ IsMadeOfParts plan.split (map view replies) (Err error.kind)))
      → ((error : ErrorParts) → first_error (answers_given plan.answers) ≡ Some error → result ≡ Err error) → IsCombined (of_parts plan.split) targets (answers_given plan.answers) result
  combined_parts targets result joined refused = by_error (first_error (answers_given plan.answers)) refl
    where
      by_error : (error : Option ErrorParts) → first_error (answers_given plan.answers) ≡ error → IsCombined (of_parts plan.split) targets (answers_given plan.answers) result
      by_error (Some error) first = grind (arith, common_steps, refused error first)
      by_error None none = let all = all_values plan.answers told none in let made = joined all.0 all.1 in grind (arith, common_steps, each_value all.0)

  -- the parts were answered by these values
  pub part_replies : (form : ReplyForm) (results : List TupleResult) → first_error (answers_given plan.answers) ≡ None → ArePartsAnswered plan.split form results (values_in (answers_given plan.answers)) → ArePartReplies plan form results
  part_replies form results none answered = let all = all_values plan.answers told none in record {
    replies = all.0;
    all_told = all.1;
    answered = grind (arith, common_steps, each_value all.0);
  }
