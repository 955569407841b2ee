use Rattle.std.proofs.Common.{◌≡◌, [], Result, Ok, Err, IfOk, MatchResult, map, length, sym, ap, ◌∙◌, subst, arith}
use Rattle.std.proofs.lemmas.Grind.{common_steps}
use Rattle.std.proofs.lemmas.List.{append-nil}
use Rattle.resp_core.specs.View.{view}
use Rattle.redis_routing.specs.Split.{IsSplit}
use Rattle.redis_combiners.specs.Answers.{values_told}
use Rattle.redis_cluster.specs.Plan.{Plan}
use Rattle.redis_cluster.proofs.Amid.{reply_amid}
use Rattle.redis_cluster.proofs.Made.{IsMadeOr, made_of_parts, unsplit_of_parts}
use Rattle.redis_cluster.proofs.SplitTuples.{is_split_to}
use Rattle.redis_cluster.proofs.Told.{many_told, no_error_before, none_missing, same_told}
use Rattle.redis_cluster.proofs.plan.SplitPlan.combine.Goals as goal

pub returns-then-is_untold-clause-unsplit : goal.returns-then-is_untold-clause-unsplit
returns-then-is_untold-clause-unsplit g c = grind (arith, common_steps, none_missing)

pub returns-then-is_untold-clause-joined : goal.returns-then-is_untold-clause-joined
returns-then-is_untold-clause-joined g c = grind (arith, common_steps, none_missing)

pub returns-in_err-replies-clause-unsplit : goal.returns-in_err-replies-clause-unsplit
returns-in_err-replies-clause-unsplit g c = λ form results are. absurd (grind (arith, common_steps, no_error_before are.replies [], append-nil))

pub returns-in_err-replies-clause-joined : goal.returns-in_err-replies-clause-joined
returns-in_err-replies-clause-joined g c = λ replies all. absurd (grind (arith, common_steps, no_error_before replies [], append-nil))

pub join-requires-clause-some : goal.join-requires-clause-some
join-requires-clause-some g c = grind (arith, common_steps, many_told c.in_ok-replies.replies.items, is_split_to c.self.inside.split c.self.invariant.0.split)

pub returns-clause-joined : goal.returns-clause-joined
returns-clause-joined g c = λ replies all.
    let own = c.in_ok-replies.replies.items in
    let split : c.self.inside.split ≡ c.args.self.split = ap (λ (p : Plan). p.split) c.self.view_is in
    let told : values_told own ≡ values_told replies = sym c.in_ok-replies.ensures.values ∙ ap (λ (p : Plan). p.answers) c.self.view_is ∙ all in
    let many : length own ≡ length c.self.inside.split.routes = sym (many_told own) ∙ ap length (sym c.in_ok-replies.ensures.values) ∙ c.self.invariant.0.answers in
    subst (λ s. IsMadeOr s (map view replies) c.join.result) split
    (subst (λ rs. IsMadeOr c.self.inside.split (map view rs) c.join.result) (same_told own replies told)
    (made_of_parts c.self.inside.split c.self.invariant.0.split own many c.join.result c.join.ensures.joined))

pub returns-clause-unsplit : goal.returns-clause-unsplit
returns-clause-unsplit g c = λ form results are.
    let split : c.self.inside.split ≡ c.args.self.split = ap (λ (p : Plan). p.split) c.self.view_is in
    unsplit_of_parts c.args.self.split (subst IsSplit split c.self.invariant.0.split) form results are.replies are.answered c.join.result (returns-clause-joined g c are.replies are.all_told)

if_ok : {T E : Type 0} (A P : T → Type 0) (B : E → Type 0) (r : Result T E) → ((x : T) → A x → P x) → MatchResult r A B → IfOk r P
if_ok A P B (Ok x) f is = f x is
if_ok A P B (Err e) f is = tt

pub returns-clause-amid : goal.returns-clause-amid
returns-clause-amid g c = λ registered command replies is all.
    let split : c.self.inside.split ≡ c.args.self.split = ap (λ (p : Plan). p.split) c.self.view_is in
    if_ok _ _ _ c.join.result
    (λ value made. reply_amid _ registered c.args.self command (view value) (map view replies) is (subst IsSplit split c.self.invariant.0.split) made)
    (returns-clause-joined g c replies all)

pub returns-clause-refused : goal.returns-clause-refused
returns-clause-refused g c = grind (arith, common_steps, no_error_before c.in_ok-replies.replies.items [], append-nil)
