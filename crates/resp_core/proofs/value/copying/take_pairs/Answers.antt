use Rattle.std.proofs.Common.{◌++◌, ◌∷◌, [], ◌∙◌, map, rules, arith, ap, sym}
use Rattle.std.proofs.lemmas.Grind.{common_steps}
use Rattle.std.proofs.lemmas.List.{map-append}
use Rattle.resp_core.specs.Reply.{pairs_of}
use Rattle.resp_core.specs.View.{view_pair}
use Rattle.resp_core.specs.Copying.{inside_pairs}
use Rattle.resp_core.proofs.Comparing.{map-take_more}
use Rattle.resp_core.proofs.Copying.{pairs-left, take-next, two-left}
use Rattle.resp_core.proofs.value.copying.take_pairs.Goals as goal

pub loop-item-init : goal.loop-item-init
loop-item-init c = (search rules, λ rest e. e)

pub take_last-key-requires : goal.take_last-key-requires
take_last-key-requires c = grind (arith, common_steps, pairs-left, two-left)

pub take_last-value-requires : goal.take_last-value-requires
take_last-value-requires c = grind (arith, common_steps, pairs-left, two-left)

pub loop-item-preserved : goal.loop-item-preserved
loop-item-preserved c =
    let items = c.deref-item-items.result.now in
    let n = c.loop-item._item-index in
    let p = c._item-item.result in
    let next = take-next c.loop-item.copies.items c.take_last-key.new.self.items c.take_last-value.new.self.items c.take_last-key.result c.take_last-value.result items n p c.loop-item-test.true c._item-item.is c.take_last-key.ensures.items c.take_last-value.ensures.items in
    let rest = c.requires.0 in
    let begin = c.requires.1 ∙ ap (λ ps. rest ++ inside_pairs (pairs_of (map view_pair ps))) (sym c.deref-item-items.ensures.value) in
    let same = (next rest (c.loop-item.invariant.1 rest begin)).1 in
    let pushed = ap (map view_pair) c.in_ok-push.ensures.items ∙ map-append view_pair c.loop-item.pairs.items ((c.take_last-key.result, c.take_last-value.result) ∷ []) in
    let copied = pushed ∙ (λ i. c.loop-item.invariant.0 i ++ same i ∷ []) ∙ sym (map-take_more view_pair items n p c.loop-item-test.true c._item-item.is) in
    (copied, λ rest begin. (next rest (c.loop-item.invariant.1 rest begin)).0)

pub returns-clause-copied : goal.returns-clause-copied
returns-clause-copied c = grind (arith, common_steps)

pub returns-clause-rest : goal.returns-clause-rest
returns-clause-rest c = grind (arith, common_steps)
