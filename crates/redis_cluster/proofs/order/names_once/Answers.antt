use Rattle.std.proofs.Common.{◌≡◌, ◌+◌, ◌≤◌, ◌<◌, ℕ, List, Bool, true, false, cond, refl, sym, ap, ◌∙◌, subst, arith, All, take, length, get_or, set}
use Rattle.std.proofs.lemmas.Grind.{common_steps}
use Rattle.std.specs.Prelude.{nat_eq}
use Rattle.std.proofs.lemmas.Bool.{eqb-true}
use Rattle.std.proofs.lemmas.Bool.Decides.{nat_tests}
use Rattle.std.proofs.lemmas.List.{take_all, get_or-set_same, get_or-set_other, get_or_read, length-set}
use Rattle.std.proofs.lemmas.List.Elements.{All-more}
use Rattle.resp_core.proofs.Cases.{by_test}
use Rattle.redis_cluster.specs.Orders.{times, NamesOnce}
use Rattle.redis_cluster.proofs.Counts.{same_number}
use Rattle.redis_cluster.proofs.Once.{of_other_length, too_large, names_once-apart, names_once_from, times_more, times-take}
use Rattle.redis_cluster.proofs.order.names_once.Goals as goal
use Rattle.redis_cluster.proofs.order.names_once.Goals.{then-number-count-via-then-number-count, then-number-count-via-else-number-count+then-index}

-- a number that stood before stands twice
seen : (n : ℕ) (order : List ℕ) (i : ℕ) → i < length order → times (get_or order i 0) (take i order) ≡ 1 → NamesOnce n order → ⊥
seen n order i l once names =
    let x = get_or order i 0 in
    let more : times x (take (i + 1) order) ≡ times x (take i order) + 1 =
    times_more x order i 0 l ∙ ap (λ b. times x (take i order) + cond b 1 0) (same_number x)
    in
    omega (arith, times-take x order (i + 1), names_once-apart n order names x)

-- a mark more
marked_more : (named : List Bool) (x k : ℕ) → x < length named → get_or named x false ≡ false →
    cond (get_or named k false) 1 0 + cond (nat_eq k x) 1 0 ≡ cond (get_or (set named x true) k false) 1 0
marked_more named x k l unmarked = grind (arith, common_steps, by_test, eqb-true, same_number, get_or-set_same, nat_tests, get_or-set_other)

-- a mark counts at most once
most_once : (b : Bool) (n : ℕ) → n ≡ cond b 1 0 → n ≤ 1
most_once true n e = omega arith
most_once false n e = omega arith

pub returns-then-order-count : goal.returns-then-order-count
returns-then-order-count c = (λ e. absurd (cc), λ names. absurd (of_other_length c.args.count c.args.order.now c.if-order-count.true names))

pub returns-then-number-count : goal.returns-then-number-count
returns-then-number-count c = (
  λ e. absurd (cc),
  λ names. absurd (elim c.then-number-count.branch [
    | then-number-count-via-then-number-count w ↦ too_large c.args.count c.args.order.now c.loop-number.number-index 0 c.loop-number-test.true w.if-number-count.true names
    | then-number-count-via-else-number-count+then-index w ↦
        let x = get_or c.args.order.now c.loop-number.number-index 0 in
        let l : x < length c.loop-number.named.items = omega arith in
        let marked : true ≡ get_or c.loop-number.named.items x false = sym w.if-index.true ∙ get_or_read c.loop-number.named.items x _ l w.index.ensures false in
        seen c.args.count c.args.order.now c.loop-number.number-index c.loop-number-test.true
        (c.loop-number.invariant.2 x ∙ ap (λ b. cond b 1 0) (sym marked)) names
  ]),
)

pub loop-number-preserved : goal.loop-number-preserved
loop-number-preserved c =
    let order = c.args.order.now in
    let i = c.loop-number.number-index in
    let named = c.loop-number.named.items in
    let x = get_or order i 0 in
    let l : x < length named = omega arith in
    let unmarked : get_or named x false ≡ false = sym (get_or_read named x _ l c.index.ensures false) ∙ c.if-index.false in (
      length-set named x true ∙ c.loop-number.invariant.0,
      All-more (λ k. k < c.args.count) order i 0 c.loop-number-test.true c.loop-number.invariant.1 c.if-number-count.false,
      λ k. times_more k order i 0 c.loop-number-test.true ∙ ap (λ t. t + cond (nat_eq k x) 1 0) (c.loop-number.invariant.2 k) ∙ marked_more named x k l unmarked,
    )

pub returns : goal.returns
returns c =
    let all = take_all c.loop-number.number-index c.args.order.now c.loop-number-test.false in
    let inv = c.loop-number.invariant in (
      λ e. names_once_from c.args.count c.args.order.now c.if-order-count.false
          (subst (All (λ k. k < c.args.count)) all inv.1)
          (λ k. most_once _ _ (ap (times k) (sym all) ∙ inv.2 k)),
      λ names. refl,
    )
