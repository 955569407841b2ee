-- Why a client has one reply to the parts of a command, or none.
use Rattle.std.proofs.Common.{◌≡◌, ◌∙◌, ◌⊎◌, ℕ, inl, List, Some, Result, Ok, Err, map, sym, ap, true, false, MatchResult, IfOk, IfErr, subst, arith}
use Rattle.std.proofs.lemmas.Grind.{common_steps}
use Rattle.std.specs.Prelude.{is_none}
use Rattle.std.specs.List.{list_any}
use Rattle.std.specs.Result.{IsErrAnd}
use Rattle.resp_core.specs.ErrorParts.{ErrorParts, out_of_memory}
use Rattle.resp_core.specs.View.{view}
use Rattle.resp_core.specs.declared.value.Value.{Value}
use Rattle.redis_cluster.specs.Answers.{missing_answer, values_told}
use Rattle.std.proofs.lemmas.Simd.{map-map}
use Rattle.redis_routing.specs.declared.policy.ResponsePolicy.TheVariants.{CombineArrays}
use Rattle.redis_routing.specs.Registry.{Registrations}
use Rattle.redis_cluster.specs.Amid.{IsReplyAmid}
use Rattle.redis_cluster.specs.MultiKey.{MultiKey}
use Rattle.redis_cluster.specs.Plan.{IsMadeOfParts, Plan}
use Rattle.redis_routing.specs.Split.{Split}
use Rattle.redis_cluster.specs.Ready.{IsPlanOf}
use Rattle.uses.specs.Batch.{Answers, IsGathered, IsNotCombined, IsUngathered, IsClientRefusal, IsUntold}
use Rattle.uses.specs.declared.batcher.BatchError.{BatchError}
use Rattle.uses.specs.declared.batcher.BatchError.TheVariants.{NotPlanned, NotAnswered, NotCombined, Memory}
use Rattle.resp_core.proofs.Cases.{by_test}
use Rattle.uses.proofs.Telling.{after_telling, told_each}

-- an answer to no part is refused so
pub refused_so : (plan : Plan) (answers : Answers) (replies : List Value) (e : BatchError)
    → answers ≡ map Ok replies → IsClientRefusal e → IsUngathered plan answers e
refused_so plan answers replies (NotPlanned fault) each is = is
refused_so plan answers replies (NotAnswered number cause) each is = absurd is
refused_so plan answers replies (NotCombined error) each is =
    record { replies = replies; each = each; cause = λ untold. inl is }
refused_so plan answers replies Memory each is = tt

-- what a plan says of the replies that it was told
abbrev pub Joins : Plan → Result Value ErrorParts → Type 0
Joins final r = (replies : List Value) → final.answers ≡ values_told replies
    → MatchResult r (λ value. IsMadeOfParts final.split (map view replies) (Ok (view value)))
    (λ error. ((error ≡ out_of_memory) × (final.split.policy ≡ CombineArrays))
    ⊎ IsMadeOfParts final.split (map view replies) (Err error.kind))

-- what it says of them amid what others write
abbrev pub JoinsAmid : Plan → Result Value ErrorParts → Type 0
JoinsAmid final r = (registered : Registrations) (command : MultiKey) (replies : List Value)
    → IsPlanOf registered command final → final.answers ≡ values_told replies
    → IfOk r (λ value. IsReplyAmid (List ℕ) command (map view replies) (view value))

-- a plan after these replies were told to its first routes
abbrev pub with_told : Plan → List Value → Plan
with_told plan told = record plan { answers = after_telling plan.answers (map Ok told) }

-- it is of the same command
still_of : (registered : Registrations) (command : MultiKey) (plan : Plan) (told : List Value)
    → IsPlanOf registered command plan → IsPlanOf registered command (with_told plan told)
still_of registered command plan told is = grind (arith, common_steps)

module _ (plan final : Plan) (answers : Answers) (values : List Value)
    (each : answers ≡ map Ok values) (final_is : final ≡ with_told plan values) where
  all_of : IsUntold plan → list_any is_none final.answers ≡ false → final.answers ≡ values_told values
  all_of none_before all = told_each plan.split.routes plan.answers final.answers (map Ok values) none_before (ap (λ (p : Plan). p.answers) final_is) all ∙ map-map Some Ok values

  split_is : final.split ≡ plan.split
  split_is = ap (λ (p : Plan). p.split) final_is

  pub ended : (r : Result Value ErrorParts) → Joins final r → JoinsAmid final r
      → (list_any is_none final.answers ≡ true → r ≡ Err missing_answer)
      → MatchResult r (λ value. IsGathered plan answers (view value)) (λ error. IsNotCombined plan answers error)
  ended (Ok value) joins amid untold = record {
    replies = values;
    each = each;
    made = λ none_before.
        by_test (list_any is_none final.answers)
        (λ some. absurd (let e : Ok value ≡ Err missing_answer = untold some in cc))
        (λ all. subst (λ (s : Split). IsMadeOfParts s (map view values) (Ok (view value))) split_is (joins values (all_of none_before all)));
    amid = λ registered command is none_before.
        by_test (list_any is_none final.answers)
        (λ some. absurd (let e : Ok value ≡ Err missing_answer = untold some in cc))
        (λ all. amid registered command values (subst (IsPlanOf registered command) (sym final_is) (still_of registered command plan values is)) (all_of none_before all));
  }
  ended (Err error) joins amid untold = grind (arith, common_steps, by_test, all_of, split_is)

-- of an outcome whose error was turned into another, what is said of a value
pub if_ok : {A E F : Type 0} (M : E → F → Type 0) (P : A → Type 0) (Q : E → Type 0) (r : Result A E) (s : Result A F)
    → MatchResult r P Q → MatchResult r (λ x. s ≡ Ok x) (λ e. IsErrAnd s (M e)) → IfOk s P
if_ok M P Q (Ok x) (Ok y) is same = let e : x ≡ y = cc same in subst P e is
if_ok M P Q (Ok x) (Err f) is same = tt
if_ok M P Q (Err e) (Ok y) is made = absurd made
if_ok M P Q (Err e) (Err f) is made = tt

-- and of the error
pub if_err : {A E F : Type 0} (U : F → Type 0) (make : E → F) (P : A → Type 0) (Q : E → Type 0) (r : Result A E) (s : Result A F)
    → ((e : E) → Q e → U (make e)) → MatchResult r P Q
    → MatchResult r (λ x. s ≡ Ok x) (λ e. IsErrAnd s (λ f. f ≡ make e)) → IfErr s U
if_err U make P Q (Ok x) (Ok y) of is same = tt
if_err U make P Q (Ok x) (Err f) of is same = absurd (cc same)
if_err U make P Q (Err e) (Ok y) of is made = tt
if_err U make P Q (Err e) (Err f) of is made = subst U (sym made) (of e is)
