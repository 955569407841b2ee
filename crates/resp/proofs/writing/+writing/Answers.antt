use Rattle.std.proofs.Common.{◌≡◌, ◌++◌, ◌<◌, ◌≤◌, ◌^◌, List, ℕ, ap, sym, subst, ◌∙◌, length, decimal, map, append_assoc, arith, rules}
use Rattle.std.proofs.lemmas.Grind.{common_steps}
use Rattle.std.specs.List.{flat_map}
use Rattle.std.proofs.lemmas.List.{take_all}
use Rattle.std.proofs.lemmas.Result.{err_from_is_err_and}
use Rattle.resp_core.specs.Reply.{replies_of}
use Rattle.resp_core.specs.View.{view}
use Rattle.resp_core.specs.declared.value.Value.{Value}
use Rattle.resp.specs.Forms.{line, form, forms, depth, HaveForm}
use Rattle.resp.proofs.Written.{items_form, array_form, array_has_form, item_has_form, item_is_low, values_more, written_more}
use Rattle.resp.proofs.writing.+writing.Goals as goal

pub push_value-returns-in_ok-push_values-in-Array-clause-bytes : goal.push_value-returns-in_ok-push_values-in-Array-clause-bytes
push_value-returns-in_ok-push_values-in-Array-clause-bytes t c =
    let a = array_form c.args.value.now c.in-Array.items c.in-Array.is in
    let head : c.push_count.new.out.items ≡ c.args.out.now.items ++ line 42 (decimal (length c.in-Array.items.items)) = search (rules, common_steps) in
    let items : c.deref-in-Array.result.now ≡ c.in-Array.items.items = c.deref-in-Array.ensures.value in
    let rest : c.push_values.new.out.items ≡ c.push_count.new.out.items ++ forms (replies_of (map view c.in-Array.items.items)) =
    c.in_ok-push_values-in-Array.ensures.bytes ∙ ap (λ (vs : List Value). c.push_count.new.out.items ++ forms (replies_of (map view vs))) items in
    rest
    ∙ ap (λ (front : List ℕ). front ++ forms (replies_of (map view c.in-Array.items.items))) head
    ∙ append_assoc c.args.out.now.items (line 42 (decimal (length c.in-Array.items.items))) (forms (replies_of (map view c.in-Array.items.items)))
    ∙ ap (λ (t : List ℕ). c.args.out.now.items ++ t) (sym a)

pub push_value-returns-in_ok-push_values-in-Array-clause-form : goal.push_value-returns-in_ok-push_values-in-Array-clause-form
push_value-returns-in_ok-push_values-in-Array-clause-form t c =
    let items : c.deref-in-Array.result.now ≡ c.in-Array.items.items = c.deref-in-Array.ensures.value in
    let few : length c.in-Array.items.items < 2 ^ 63 = omega arith in
    array_has_form c.args.value.now c.in-Array.items c.in-Array.is few (subst (λ (vs : List Value). HaveForm (replies_of (map view vs))) items c.in_ok-push_values-in-Array.ensures.form)

pub push_values-returns-clause-bytes : goal.push_values-returns-clause-bytes
push_values-returns-clause-bytes t c =
    let whole = take_all c.loop-value.value-index c.args.values.now (omega arith) in
    c.loop-value.invariant.0 ∙ ap (λ (t : List ℕ). c.args.out.now.items ++ t) (ap (flat_map (λ v. form (view v))) whole ∙ items_form c.args.values.now)

pub push_values-returns-in_err-push_value-clause-refused : goal.push_values-returns-in_err-push_value-clause-refused
push_values-returns-in_err-push_value-clause-refused t c = λ have low.
    let p = err_from_is_err_and c.from_residual.result c.from_residual.ensures.1 in
    let vs = c.args.values.now in
    let lt : c.loop-value.value-index < length vs = omega arith in
    let fits : depth (view c.value-item.result) ≤ c.args.levels = omega (arith, low, item_is_low vs c.loop-value.value-index c.value-item.result lt c.value-item.is) in
    rw (p.1, p.2) (c.in_err-push_value.ensures.refused (item_has_form vs c.loop-value.value-index c.value-item.result lt c.value-item.is have) fits)

pub push_values-loop-value-preserved : goal.push_values-loop-value-preserved
push_values-loop-value-preserved t c =
    let vs = c.args.values.now in
    let i = c.loop-value.value-index in
    let v = c.value-item.result in
    let lt : i < length vs = omega arith in (
      c.in_ok-push_value.ensures.bytes
          ∙ ap (λ (b : List ℕ). b ++ form (view v)) c.loop-value.invariant.0
          ∙ values_more c.args.out.now.items vs i v lt c.value-item.is,
      written_more vs i c.args.levels v lt c.value-item.is c.in_ok-push_value.ensures.form c.in_ok-push_value.ensures.depth c.loop-value.invariant.1,
    )
