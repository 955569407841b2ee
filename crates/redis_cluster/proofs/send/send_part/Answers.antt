use Rattle.std.proofs.Common.{◌≡◌, ◌∙◌, ℕ, List, Option, Some, None, ap, sym, option_map, map, subst, arith, get_or}
use Rattle.std.specs.Prelude.{slice_get}
use Rattle.std.proofs.lemmas.Result.{IfOk-weaker, IfErr-weaker}
use Rattle.std.proofs.lemmas.Option.{slice_get-get_or}
use Rattle.cluster_slots.specs.Address.{Address}
use Rattle.redis_cluster.specs.MultiKey.{IsPart}
use Rattle.redis_cluster.specs.Ended.{IsPartAnswered, IsPartUnanswered}
use Rattle.redis_cluster.specs.Retry.{Try, RetryState}
use Rattle.redis_cluster.specs.Ready.{Target, try_by, try_once, try_with}
use Rattle.redis_cluster.proofs.Sending.{set_there}
use Rattle.redis_cluster.proofs.Tries.{none_past}
use Rattle.redis_cluster.proofs.Zips.{zip_at}
use Rattle.redis_cluster.proofs.Constructors.{same_some, none_apart}
use Rattle.redis_cluster.proofs.send.send_part.Goals as goal

-- what a plan has at a number is the target
one_of : {A B : Type 0} (f : A → B) (r : Option A) (x : A) (o : Option B) (y : B) → option_map f r ≡ o → r ≡ Some x → o ≡ Some y → f x ≡ y
one_of f r x o y told is at = same_some (f x) y (sym (ap (option_map f) is) ∙ told ∙ at)

none_of : {A B : Type 0} (f : A → B) (r : Option A) (o : Option B) (y : B) → option_map f r ≡ o → r ≡ None → o ≡ Some y → ⊥
none_of f r o y told is at = none_apart y (sym (ap (option_map f) is) ∙ told ∙ at)

pub unreachable-requires : goal.unreachable-requires
unreachable-requires g c =
    let t : Target = c.requires.there.0 in
    none_of (λ p. p.now) c.part.result (slice_get c.args.plan.now.parts c.args.number) t.1 c.part.ensures c.in_default.is (zip_at c.args.plan.now.nodes c.args.plan.now.parts c.args.number t c.requires.there.1).1

pub unreachable-requires-in_default-node : goal.unreachable-requires-in_default-node
unreachable-requires-in_default-node g c =
    let t : Target = c.requires.there.0 in
    none_of (λ n. n.now) c.node.result (slice_get c.args.plan.now.nodes c.args.number) t.0 c.node.ensures c.in_default-node.is (zip_at c.args.plan.now.nodes c.args.plan.now.parts c.args.number t c.requires.there.1).0

pub send_with_retries-requires : goal.send_with_retries-requires
send_with_retries-requires g c =
    let t : Target = c.requires.there.0 in
    let part_is : c.in-Some.part.now ≡ t.1 = one_of (λ p. p.now) c.part.result c.in-Some.part (slice_get c.args.plan.now.parts c.args.number) t.1 c.part.ensures c.in-Some.is (zip_at c.args.plan.now.nodes c.args.plan.now.parts c.args.number t c.requires.there.1).1 in
    record {
      part = subst (λ (a : List (List ℕ)). IsPart (g.N.Nodes.registered c.args.nodes.now) (map Some a)) (sym part_is) c.requires.there.2;
      named = c.requires.named (get_or c.args.retries.now c.args.number c.index-retries-number.result) (slice_get-get_or c.args.retries.now c.args.number c.index-retries-number.result c.if-number-retries.true);
    }

pub send_once-requires : goal.send_once-requires
send_once-requires g c =
    let t : Target = c.requires.there.0 in
    let part_is : c.in-Some.part.now ≡ t.1 = one_of (λ p. p.now) c.part.result c.in-Some.part (slice_get c.args.plan.now.parts c.args.number) t.1 c.part.ensures c.in-Some.is (zip_at c.args.plan.now.nodes c.args.plan.now.parts c.args.number t c.requires.there.1).1 in
    record { part = subst (λ (a : List (List ℕ)). IsPart (g.N.Nodes.registered c.args.nodes.now) (map Some a)) (sym part_is) c.requires.there.2 }

pub returns-then-number-retries-clause-answered : goal.returns-then-number-retries-clause-answered
returns-then-number-retries-clause-answered g c =
    IfOk-weaker c.send_with_retries.result _ _ (λ value told target at.
    let both = zip_at c.args.plan.now.nodes c.args.plan.now.parts c.args.number target at in
    let part_is : c.in-Some.part.now ≡ target.1 = one_of (λ p. p.now) c.part.result c.in-Some.part (slice_get c.args.plan.now.parts c.args.number) target.1 c.part.ensures c.in-Some.is both.1 in
    let own : RetryState = get_or c.args.retries.now c.args.number c.index-retries-number.result in
    let own_is : slice_get c.args.retries.now c.args.number ≡ Some own = slice_get-get_or c.args.retries.now c.args.number c.index-retries-number.result c.if-number-retries.true in
    subst (λ (t : Try). IsPartAnswered g.N.Nodes t c.args.nodes.now c.send_with_retries.new.nodes value) (ap (λ (a : List (List ℕ)). try_by a own) part_is ∙ ap (λ (o : Option RetryState). try_with target o) (sym own_is)) told)
    c.send_with_retries.ensures.answered

pub returns-then-number-retries-clause-unanswered : goal.returns-then-number-retries-clause-unanswered
returns-then-number-retries-clause-unanswered g c =
    IfErr-weaker c.send_with_retries.result _ _ (λ error told target at.
    let both = zip_at c.args.plan.now.nodes c.args.plan.now.parts c.args.number target at in
    let part_is : c.in-Some.part.now ≡ target.1 = one_of (λ p. p.now) c.part.result c.in-Some.part (slice_get c.args.plan.now.parts c.args.number) target.1 c.part.ensures c.in-Some.is both.1 in
    let own : RetryState = get_or c.args.retries.now c.args.number c.index-retries-number.result in
    let own_is : slice_get c.args.retries.now c.args.number ≡ Some own = slice_get-get_or c.args.retries.now c.args.number c.index-retries-number.result c.if-number-retries.true in
    subst (λ (t : Try). IsPartUnanswered g.N.Nodes t c.args.nodes.now c.send_with_retries.new.nodes error) (ap (λ (a : List (List ℕ)). try_by a own) part_is ∙ ap (λ (o : Option RetryState). try_with target o) (sym own_is)) told)
    c.send_with_retries.ensures.unanswered

pub returns-clause-answered : goal.returns-clause-answered
returns-clause-answered g c =
    IfOk-weaker c.send_once.result _ _ (λ value told target at.
    let both = zip_at c.args.plan.now.nodes c.args.plan.now.parts c.args.number target at in
    let part_is : c.in-Some.part.now ≡ target.1 = one_of (λ p. p.now) c.part.result c.in-Some.part (slice_get c.args.plan.now.parts c.args.number) target.1 c.part.ensures c.in-Some.is both.1 in
    let node_is : c.in-Some-node.node.now ≡ target.0 = one_of (λ n. n.now) c.node.result c.in-Some-node.node (slice_get c.args.plan.now.nodes c.args.number) target.0 c.node.ensures c.in-Some-node.is both.0 in
    let none : slice_get c.args.retries.now c.args.number ≡ None = none_past c.args.retries.now c.args.number (λ l. absurd (omega (arith, c.if-number-retries.false, l))) in
    subst (λ (t : Try). IsPartAnswered g.N.Nodes t c.args.nodes.now c.send_once.new.nodes value) (ap (λ (a : List (List ℕ)). try_once c.in-Some-node.node.now a) part_is ∙ ap (λ (n : Address). try_once n target.1) node_is ∙ ap (λ (o : Option RetryState). try_with target o) (sym none)) told)
    c.send_once.ensures.answered

pub returns-clause-unanswered : goal.returns-clause-unanswered
returns-clause-unanswered g c =
    IfErr-weaker c.send_once.result _ _ (λ error told target at.
    let both = zip_at c.args.plan.now.nodes c.args.plan.now.parts c.args.number target at in
    let part_is : c.in-Some.part.now ≡ target.1 = one_of (λ p. p.now) c.part.result c.in-Some.part (slice_get c.args.plan.now.parts c.args.number) target.1 c.part.ensures c.in-Some.is both.1 in
    let node_is : c.in-Some-node.node.now ≡ target.0 = one_of (λ n. n.now) c.node.result c.in-Some-node.node (slice_get c.args.plan.now.nodes c.args.number) target.0 c.node.ensures c.in-Some-node.is both.0 in
    let none : slice_get c.args.retries.now c.args.number ≡ None = none_past c.args.retries.now c.args.number (λ l. absurd (omega (arith, c.if-number-retries.false, l))) in
    subst (λ (t : Try). IsPartUnanswered g.N.Nodes t c.args.nodes.now c.send_once.new.nodes error) (ap (λ (a : List (List ℕ)). try_once c.in-Some-node.node.now a) part_is ∙ ap (λ (n : Address). try_once n target.1) node_is ∙ ap (λ (o : Option RetryState). try_with target o) (sym none)) told)
    c.send_once.ensures.unanswered

pub returns-then-number-retries-clause-others : goal.returns-then-number-retries-clause-others
returns-then-number-retries-clause-others g c = λ other apart. set_there c.args.retries.now c.args.number other c.send_with_retries.new.retry apart
