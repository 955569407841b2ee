use Rattle.std.proofs.Common.{◌≡◌, ◌+◌, ◌<◌, ◌^◌, ◌++◌, ◌∷◌, [], ℕ, List, Bor, length, map, drop, get_or, sym, ap, ◌∙◌, append-nil, append_assoc, arith}
use Rattle.std.proofs.lemmas.List.{drop_all, length-append, map_push}
use Rattle.resp_core.specs.Reply.{nil, replies_of}
use Rattle.resp.specs.Forms.{form, forms}
use Rattle.resp.proofs.RequestGrammar.{line_front}
use Rattle.resp.proofs.ArrayItems.{all_push, array_has_form, found_array, front_more, has_line, item_at, next_item, only_line, own_bytes, stand_after}
use Rattle.resp.proofs.items.push_items.Goals as goal

pub returns-in_default-clause-only : goal.returns-in_default-clause-only
returns-in_default-clause-only c = λ values rest are same.
    let short : length c.args.bytes.now < 2 ^ 63 = omega arith in
    absurd (has_line values c.args.bytes.now rest are same short c.in_default.field-0 c.in_default.ensures)

pub returns-in_default-after_item-clause-only : goal.returns-in_default-after_item-clause-only
returns-in_default-after_item-clause-only c = λ values rest are same.
    let short : length c.args.bytes.now < 2 ^ 63 = omega arith in
    let i = c.loop.counter in
    let line = only_line values c.args.bytes.now rest are same short c.in-Ok.count c.in-Ok.first.now c.in-Ok.ensures in
    let few : i < length values = omega (arith, c.loop-test.true, line.0) in
    let left = c.loop.invariant.only values rest are line.0 line.1 in
    absurd (c.in_default-after_item.ensures.only (get_or values i nil) (forms (replies_of (drop (i + 1) values)) ++ rest) (item_at values i are few) (left ∙ next_item values i rest few))

pub loop-preserved : goal.loop-preserved
loop-preserved c =
    let now : Bor (List ℕ) → List ℕ = λ item. item.now in
    let values = c.loop.invariant.values in
    let found = c.in-Some.ensures.found in
    let value = found.0 in
    let rest = c.loop.rest.now in
    let after = c.in-Some.after.now in
    let i = c.loop.counter in
    let item = c.split_at.result.0 in
    let old = c.loop.items.items in
    let text : item.now ≡ form value = c.split_at.ensures.front ∙ own_bytes rest (form value) after found.2 in
    record {
      values = values ++ value ∷ [];
      many = omega (arith, length-append values (value ∷ []), c.loop.invariant.many);
      are = all_push values value c.loop.invariant.are found.1;
      front = front_more values value c.in-Ok.first.now rest after c.loop.invariant.front found.2;
      pushed = ap (map now) c.in_ok-push.ensures.items ∙ map_push now old item ∙ ap (λ ts. ts ++ item.now ∷ []) c.loop.invariant.pushed
          ∙ append_assoc (map now c.args.items.now.items) (map form values) (item.now ∷ [])
          ∙ ap (λ t. map now c.args.items.now.items ++ (map form values ++ t ∷ [])) text
          ∙ ap (λ ts. map now c.args.items.now.items ++ ts) (sym (map_push form values value));
      only = λ all tail are many same.
          let few : i < length all = omega (arith, c.loop-test.true, many) in
          c.in-Some.ensures.only (get_or all i nil) (forms (replies_of (drop (i + 1) all)) ++ tail) (item_at all i are few) (c.loop.invariant.only all tail are many same ∙ next_item all i tail few);
    }

pub returns-clause-found : goal.returns-clause-found
returns-clause-found c =
    let l = c.loop.invariant in
    let line = line_front 42 c.args.bytes.now c.in-Ok.first.now c.in-Ok.count c.in-Ok.ensures in
    let many : c.in-Ok.count ≡ length l.values = omega (arith, c.loop-test.false, l.many, c.loop.auto.counter-end) in
    let few : length l.values < 2 ^ 63 = omega (arith, many, line.1) in
    (l.values, l.are, found_array l.values c.args.bytes.now c.in-Ok.first.now c.loop.rest.now c.in-Ok.count line.0 many l.front, array_has_form l.values l.are few, l.pushed)

pub returns-clause-only : goal.returns-clause-only
returns-clause-only c = λ values rest are same.
    let short : length c.args.bytes.now < 2 ^ 63 = omega arith in
    let line = only_line values c.args.bytes.now rest are same short c.in-Ok.count c.in-Ok.first.now c.in-Ok.ensures in
    c.loop.invariant.only values rest are line.0 line.1
    ∙ ap (λ vs. forms (replies_of vs) ++ rest) (drop_all c.loop.counter values (omega (arith, c.loop-test.false, line.0)))

pub returns-in_default-clause-before : goal.returns-in_default-clause-before
returns-in_default-clause-before c =
    ([], tt, (c.args.bytes.now, [], sym (append-nil c.args.bytes.now)), sym (append-nil _))

pub returns-in_default-after_item-clause-before : goal.returns-in_default-after_item-clause-before
returns-in_default-after_item-clause-before c =
    let l = c.loop.invariant in
    (l.values, l.are, stand_after c.args.bytes.now c.in-Ok.first.now c.loop.rest.now c.in-Ok.count l.values c.in-Ok.ensures l.front, l.pushed)

pub returns-in_err-push-clause-before : goal.returns-in_err-push-clause-before
returns-in_err-push-clause-before c =
    let l = c.loop.invariant in
    (l.values, l.are, stand_after c.args.bytes.now c.in-Ok.first.now c.loop.rest.now c.in-Ok.count l.values c.in-Ok.ensures l.front, ap (map (λ (item : Bor (List ℕ)). item.now)) c.in_err-push.ensures.items ∙ l.pushed)

pub returns-clause-before : goal.returns-clause-before
returns-clause-before c =
    let l = c.loop.invariant in
    (l.values, l.are, stand_after c.args.bytes.now c.in-Ok.first.now c.loop.rest.now c.in-Ok.count l.values c.in-Ok.ensures l.front, l.pushed)
