use Rattle.std.proofs.Common.{◌≡◌, ◌+◌, ◌<◌, ◌∷◌, ap, sym, ◌∙◌, arith, rules, map, drop, length, []}
use Rattle.std.proofs.lemmas.List.{map_push, drop_more}
use Rattle.resp_core.specs.Reply.{pairs, pairs_of}
use Rattle.resp_core.specs.View.{view, view_pair}
use Rattle.resp_core.specs.declared.value.Value.{Map, the_lemmas}
use Rattle.redis_commands.proofs.ByAddress.{named, named_more, named_all, nil_of}
use Rattle.redis_commands.proofs.combining.by_address.Goals as goal

pub loop-value-preserved : goal.loop-value-preserved
loop-value-preserved c =
    let i = c.loop-value.invariant in
    let n = c.loop-value.number in
    let nodes = c.args.nodes.now in
    let rest = c.loop-value.value-iterator.rest.items in
    let later = c.next.new.self.rest.items in
    let first : rest ≡ c.in-Some.value ∷ later = c.in-Some.ensures.steps.0 in
    let long : length rest ≡ length (c.in-Some.value ∷ later) = ap length first in
    let within : n < length nodes = omega (arith, i.2, long, c.requires.same) in
    let node = c.index-nodes-number.result in
    let here : drop n nodes ≡ node ∷ drop (n + 1) nodes = drop_more nodes n node within ∙ ap (λ d. d ∷ drop (n + 1) nodes) (sym c.index-nodes-number.is) in
    let pushed = ap (map view_pair) c.in_ok-push.ensures.items ∙ map_push view_pair c.loop-value.entries.items _ in (
      tt,
      tt,
      omega (arith, i.2, long),
      rw pushed (named_more (drop n nodes) (drop (n + 1) nodes) node rest later c.in-Some.value (map view_pair c.loop-value.entries.items) _ (named nodes c.args.values.items) here first (search (rules, the_lemmas)) i.3),
    )

pub returns : goal.returns
returns c =
    let i = c.loop-value.invariant in
    let list = c.loop-value.entries in
    let seen : view (Map list) ≡ pairs (pairs_of (map view_pair list.items)) = search (rules, the_lemmas) in
    let none : c.loop-value.value-iterator.rest.items ≡ [] = nil_of c.loop-value.value-iterator.rest.items (search rules) in
    seen ∙ ap (λ ps. pairs (pairs_of ps)) (named_all (drop c.loop-value.number c.args.nodes.now) c.loop-value.value-iterator.rest.items (map view_pair list.items) (named c.args.nodes.now c.args.values.items) none i.3)
