-- The one reply that a policy makes of answers in bytes, and what is returned of it.
use Rattle.std.proofs.Common.{◌≡◌, ◌≢◌, ◌⊎◌, ℕ, Vec, Global, IfOk, IfErr, List, [], ◌∷◌, true, false, Option, Some, None, Result, Ok, Err, inl, inr, map, refl, sym, ap, subst, ◌∙◌}
use Rattle.std.specs.Prelude.{filter_map, is_none}
use Rattle.std.specs.List.{last_or, list_any}
use Rattle.std.specs.Result.{result_err}
use Rattle.resp.specs.Forms.{form, line}
use Rattle.resp_core.specs.Answer.{Answer, answer_of}
use Rattle.resp_core.specs.ErrorParts.{ErrorParts, out_of_memory}
use Rattle.resp_core.specs.Reply.{Reply}
use Rattle.resp_core.specs.View.{view}
use Rattle.resp_core.specs.declared.error.ErrorKind.TheVariants.{InvalidClientConfig, OutOfMemory, UnexpectedReturnType}
use Rattle.resp_core.specs.declared.value.Value.{Value}
use Rattle.redis_routing.specs.declared.policy.ResponsePolicy.{ResponsePolicy}
use Rattle.redis_routing.specs.declared.policy.ResponsePolicy.TheVariants.{OneSucceeded, FirstSucceededNonEmptyOrAllEmpty, AllSucceeded, AggregateLogical, Aggregate, CombineArrays, Special, CombineMaps}
use Rattle.redis_commands.specs.Answers.{answers_given, first_error, last_error}
use Rattle.redis_commands.specs.Policy.{Combined, Returns, of_target, or_refused, refused, reply_by_policy, reply_or, unless_error}
use Rattle.redis_commands.specs.Rule.{IsCombined, by_policy}
use Rattle.redis_bytes.specs.Replies.{IsWritable}
use Rattle.redis_bytes.specs.Answers.{AreUnreadAnswers, WireAnswer, answer_of_wire, error_of, text_of}
use Rattle.redis_bytes.specs.Several.{HasNoReplyForm, IsReplyForm, IsUnreplied, has_no_addresses, without_map}
use Rattle.redis_bytes.specs.declared.answers_fault.AnswersFault.{AnswersFault}
use Rattle.redis_bytes.specs.declared.answers_fault.AnswersFault.TheVariants as faults

-- ---- answers that are all there

all_there : (xs : List (Result Value ErrorParts)) → list_any is_none (map Some xs) ≡ false
all_there [] = refl
all_there (x ∷ xs) = all_there xs

given_are : (xs : List (Result Value ErrorParts)) → answers_given (map Some xs) ≡ map answer_of xs
given_are [] = refl
given_are (x ∷ xs) = ap (λ (rest : List Answer). answer_of x ∷ rest) (given_are xs)

-- What was returned is what the policy makes of these, unless memory ran out.
returns_made : (policy : Option ResponsePolicy) (xs : List (Result Value ErrorParts)) (given : List (Option (Result Value ErrorParts))) (returned : Result Value ErrorParts) → given ≡ map Some xs
    → (list_any is_none given ≡ false → IsCombined (by_policy policy) [] (answers_given given) returned) → (returned ≡ Err out_of_memory → ⊥) → Returns returned (reply_by_policy policy [] (map answer_of xs))
returns_made policy xs given returned are combined ample = elim (combined (ap (list_any is_none) are ∙ all_there xs)) [
  | inl memory ↦ absurd (ample memory.0)
  | inr reply ↦ subst (λ answers. Returns returned (reply_by_policy policy [] answers)) (ap answers_given are ∙ given_are xs) reply
]

-- ---- the kinds of errors

first_is_client : (said : List WireAnswer) (e : ErrorParts) → first_error (map answer_of_wire said) ≡ Some e → e.kind ≡ InvalidClientConfig
first_is_client [] e h = absurd (cc h)
first_is_client (Ok reply ∷ said) e h = first_is_client said e h
first_is_client (Err text ∷ said) e h = let is : e ≡ error_of text = cc h in ap (λ (x : ErrorParts). x.kind) is

last_is_client : (before : Option ErrorParts) (said : List WireAnswer) (e : ErrorParts) → ((x : ErrorParts) → before ≡ Some x → x.kind ≡ InvalidClientConfig)
    → last_or before (filter_map result_err (map answer_of_wire said)) ≡ Some e → e.kind ≡ InvalidClientConfig
last_is_client before [] e own h = own e h
last_is_client before (Ok reply ∷ said) e own h = last_is_client before said e own h
last_is_client before (Err text ∷ said) e own h = last_is_client (Some (error_of text)) said e (λ x is. let same : x ≡ error_of text = cc is in ap (λ (y : ErrorParts). y.kind) same) h

no_target : (o : Option Reply) (e : ErrorParts) → or_refused o ≡ Err (of_target e) → ⊥
no_target None e h = absurd (cc h)
no_target (Some reply) e h = absurd (cc h)

unless_target : (o : Option ErrorParts) (made : Combined) (e : ErrorParts) → (made ≡ Err (of_target e) → ⊥) → unless_error o made ≡ Err (of_target e) → o ≡ Some e
unless_target None made e never h = absurd (never h)
unless_target (Some x) made e never h = cc h

or_target : (r : Option Reply) (o : Option ErrorParts) (otherwise : Combined) (e : ErrorParts) → (otherwise ≡ Err (of_target e) → ⊥) → reply_or r o otherwise ≡ Err (of_target e) → o ≡ Some e
or_target (Some reply) o otherwise e never h = absurd (cc h)
or_target None (Some x) otherwise e never h = cc h
or_target None None otherwise e never h = absurd (never h)

no_error : (before : Option ErrorParts) → before ≡ None → (x : ErrorParts) → before ≡ Some x → x.kind ≡ InvalidClientConfig
no_error before none x is = absurd (cc (none, is))

last_of : (said : List WireAnswer) (e : ErrorParts) → last_error (map answer_of_wire said) ≡ Some e → e.kind ≡ InvalidClientConfig
last_of said e h = last_is_client None said e (no_error None refl) h

-- an error that a policy makes of answers in bytes is one of these
target_is_client : (policy : Option ResponsePolicy) (said : List WireAnswer) (e : ErrorParts) → reply_by_policy policy [] (map answer_of_wire said) ≡ Err (of_target e) → e.kind ≡ InvalidClientConfig
target_is_client policy said e h = by policy h
  where
    answers : List Answer
    answers = map answer_of_wire said

    first : (made : Combined) → (made ≡ Err (of_target e) → ⊥) → unless_error (first_error answers) made ≡ Err (of_target e) → e.kind ≡ InvalidClientConfig
    first made never h = first_is_client said e (unless_target (first_error answers) made e never h)

    by : (policy : Option ResponsePolicy) → reply_by_policy policy [] answers ≡ Err (of_target e) → e.kind ≡ InvalidClientConfig
    by None h = first _ (no_target _ e) h
    by (Some OneSucceeded) h = last_of said e (or_target _ (last_error answers) _ e (λ is. absurd (cc is)) h)
    by (Some FirstSucceededNonEmptyOrAllEmpty) h = last_of said e (or_target _ (last_error answers) _ e (λ is. absurd (cc is)) h)
    by (Some AllSucceeded) h = first _ (no_target _ e) h
    by (Some (AggregateLogical op)) h = first _ (no_target _ e) h
    by (Some (Aggregate op)) h = first _ (no_target _ e) h
    by (Some CombineArrays) h = first _ (no_target _ e) h
    by (Some CombineMaps) h = first _ (no_target _ e) h
    by (Some Special) h = first _ (no_target _ e) h

-- ---- why there is none

pub unreplied : (policy : Option ResponsePolicy) (count : ℕ) (bytes : List ℕ) → has_no_addresses policy ≡ true → (fault : AnswersFault) → AreUnreadAnswers count bytes fault → IsUnreplied policy count bytes fault
unreplied policy count bytes plain faults.Memory why = inr (plain, why)
unreplied policy count bytes plain (faults.Reply n f) why = inr (plain, why)
unreplied policy count bytes plain (faults.AfterReplies end) why = inr (plain, why)
unreplied policy count bytes plain faults.NoForm why = absurd why.next

-- ---- what is written

abbrev failed : ErrorParts → Result Value ErrorParts
failed error = Err error

kind_is : (e f : ErrorParts) → failed e ≡ failed f → e.kind ≡ f.kind
kind_is e f h = let same : e ≡ f = cc h in ap (λ (x : ErrorParts). x.kind) same

error_form : (combined : Combined) (error : ErrorParts) (bytes : List ℕ) → Returns (Err error) combined → (error.kind ≡ UnexpectedReturnType → ⊥) → bytes ≡ line 45 (text_of error) → IsReplyForm bytes combined
error_form (Ok reply) error bytes returned other written = absurd returned
error_form (Err (of_target own)) error bytes returned other written = written ∙ ap (λ (e : ErrorParts). line 45 (text_of e)) returned
error_form (Err refused) error bytes returned other written = absurd (other returned)

refused_form : (combined : Combined) (error : ErrorParts) → Returns (Err error) combined → error.kind ≡ UnexpectedReturnType → ((own : ErrorParts) → combined ≡ Err (of_target own) → own.kind ≡ InvalidClientConfig) → HasNoReplyForm combined
refused_form (Ok reply) error returned is client = absurd returned
refused_form (Err (of_target own)) error returned is client = absurd (cc (sym is ∙ ap (λ (e : ErrorParts). e.kind) returned ∙ client own refl))
refused_form (Err refused) error returned is client = tt

abbrev made : Option ResponsePolicy → List (Result Value ErrorParts) → Combined
made policy xs = reply_by_policy policy [] (map answer_of xs)

module _ (policy : Option ResponsePolicy) (xs : List (Result Value ErrorParts)) (given : List (Option (Result Value ErrorParts))) (are : given ≡ map Some xs) where
  -- a value, or none that has a form
  pub value_forms : (value : Value) (r : Result (Vec ℕ Global) AnswersFault) → (list_any is_none given ≡ false → IsCombined (by_policy policy) [] (answers_given given) (Ok value))
      → IfOk r (λ bytes. bytes.items ≡ form (without_map (view value))) → IfOk r (λ bytes. IsReplyForm bytes.items (made policy xs))
  value_forms value (Err fault) combined written = tt
  value_forms value (Ok bytes) combined written =
      subst (IsReplyForm bytes.items) (sym (returns_made policy xs given (Ok value) are combined (λ out. absurd (cc out)))) written

  pub value_faults : (value : Value) (r : Result (Vec ℕ Global) AnswersFault) → (list_any is_none given ≡ false → IsCombined (by_policy policy) [] (answers_given given) (Ok value))
      → IfErr r (λ fault. (fault ≡ faults.Memory) ⊎ ((fault ≡ faults.NoForm) × (IsWritable (without_map (view value)) → ⊥)))
      → IfErr r (λ fault. (said : List WireAnswer) → map answer_of xs ≡ map answer_of_wire said → (fault ≡ faults.Memory) ⊎ ((fault ≡ faults.NoForm) × HasNoReplyForm (made policy xs)))
  value_faults value (Ok bytes) combined is = tt
  value_faults value (Err fault) combined (inl memory) = λ said same. inl memory
  value_faults value (Err fault) combined (inr none) = λ said same.
      inr (none.0, subst HasNoReplyForm (sym (returns_made policy xs given (Ok value) are combined (λ out. absurd (cc out)))) none.1)

  -- the error of a node, or values that do not fit
  pub error_forms : (error : ErrorParts) (r : Result (Vec ℕ Global) AnswersFault) → (list_any is_none given ≡ false → IsCombined (by_policy policy) [] (answers_given given) (Err error))
      → IfOk r (λ bytes. (error.kind ≢ OutOfMemory) × (error.kind ≢ UnexpectedReturnType) × (bytes.items ≡ line 45 (text_of error))) → IfOk r (λ bytes. IsReplyForm bytes.items (made policy xs))
  error_forms error (Err fault) combined written = tt
  error_forms error (Ok bytes) combined written =
      error_form (made policy xs) error bytes.items (returns_made policy xs given (Err error) are combined (λ out. written.0 (kind_is error out_of_memory out))) written.1 written.2

  pub error_faults : (error : ErrorParts) (r : Result (Vec ℕ Global) AnswersFault) → (list_any is_none given ≡ false → IsCombined (by_policy policy) [] (answers_given given) (Err error))
      → IfErr r (λ fault. (fault ≡ faults.Memory) ⊎ ((fault ≡ faults.NoForm) × (error.kind ≡ UnexpectedReturnType)))
      → IfErr r (λ fault. (said : List WireAnswer) → map answer_of xs ≡ map answer_of_wire said → (fault ≡ faults.Memory) ⊎ ((fault ≡ faults.NoForm) × HasNoReplyForm (made policy xs)))
  error_faults error (Ok bytes) combined is = tt
  error_faults error (Err fault) combined (inl memory) = λ said same. inl memory
  error_faults error (Err fault) combined (inr misfit) = λ said same.
      inr (
        misfit.0,
        refused_form (made policy xs) error (returns_made policy xs given (Err error) are combined (λ out. absurd (cc (sym misfit.1 ∙ kind_is error out_of_memory out)))) misfit.1
            (λ own is. target_is_client policy said own (subst (λ answers. reply_by_policy policy [] answers ≡ Err (of_target own)) same is)),
      )
