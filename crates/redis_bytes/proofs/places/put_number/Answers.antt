use Rattle.std.proofs.Common.{◌≡◌, ◌+◌, ◌*◌, ◌/◌, ◌<◌, ◌≤◌, ℕ, List, cond, length, get_or, slice_index, sym, ap, subst, ◌∙◌}
use Rattle.std.proofs.Math.ListN.{set}
use Rattle.std.specs.Prelude.{nat_eq}
use Rattle.std.proofs.lemmas.List.{take_all}
use Rattle.redis_cluster.specs.Orders.{times}
use Rattle.redis_bytes.proofs.PartNumbers.{HasNumber, are_keys, key_of_list, key_past, key_put}
use Rattle.redis_bytes.proofs.places.put_number.Goals as goal
use Rattle.redis_bytes.proofs.places.put_number.Goals.{then-key-found, else-key-found}

pub loop-i-preserved : goal.loop-i-preserved
loop-i-preserved c = λ keys is.
    let pattern = c.args.pattern in
    let list = c.args.list.now in
    let own = c.own_part-own.result.now in
    let w = c.width-width.result in
    let i = c.loop-i.i in
    let old = c.args.found.now in
    let now = c.loop-i.found in
    let are = are_keys pattern list keys is in
    let keyed = key_of_list pattern list keys own w i are (c.own_part-own.ensures are.own are.own_is) c.width-width.ensures in
    let few : i < length keys = subst (λ (n : ℕ). i < n) (sym keyed.0) c.loop-i-test.true in
    let key_is : get_or keys i 0 ≡ slice_index own (w * i) / w = keyed.1 c.loop-i-test.true in
    let so_far = c.loop-i.invariant keys is in
    elim c.if-key-found.branch [
      | then-key-found t ↦
          subst (HasNumber old keys c.args.number (i + 1)) (sym (t.found-is ∙ ap (λ (n : ℕ). set now n c.args.number) (sym key_is)))
          (key_put old now keys c.args.number i few c.loop-i.auto.found so_far (subst (λ (n : ℕ). n < length now) (sym key_is) t.if-key-found.true))
      | else-key-found t ↦
          subst (HasNumber old keys c.args.number (i + 1)) (sym t.found-is)
          (key_past old now keys c.args.number i few c.loop-i.auto.found so_far (subst (λ (n : ℕ). length now ≤ n) (sym key_is) t.if-key-found.false))
    ]

pub returns : goal.returns
returns c = λ keys k is within.
    let pattern = c.args.pattern in
    let list = c.args.list.now in
    let are = are_keys pattern list keys is in
    let keyed = key_of_list pattern list keys c.own_part-own.result.now c.width-width.result 0 are (c.own_part-own.ensures are.own are.own_is) c.width-width.ensures in
    c.loop-i.invariant keys is k within
    ∙ ap (λ (ks : List ℕ). cond (nat_eq (times k ks) 0) (slice_index c.args.found.now k) c.args.number) (take_all c.loop-i.i keys (subst (λ (n : ℕ). n ≤ c.loop-i.i) (sym keyed.0) c.loop-i-test.false))
