use Rattle.std.proofs.Common.{◌≡◌, true, None, Some, lit<, subst, sym}
use Rattle.std.proofs.lemmas.Str.Pattern.{contains_char}
use Rattle.cluster_slots.proofs.Lists.{lacks_from, free_from}
use Rattle.redis_routing.specs.RedirectText.{IsSlotText, IsNodeText}
use Rattle.cluster_slots.proofs.AddressTexts.{lacks_each}
use Rattle.redis_routing.proofs.RedirectTexts.{lacks_at, at_space, no_space, same_cut}
use Rattle.redis_routing.proofs.redirect.slot_and_node.Goals as goal

pub returns-in_err-number : goal.returns-in_err-number
returns-in_err-number c =
    rw c.from_residual.ensures (no_space c.args.answering.now c.args.text.now (at_space c.args.text.now None c.in_err-number.ensures.cases))

pub returns-then-contains : goal.returns-then-contains
returns-then-contains c slot host port t =
    let cut = at_space c.args.text.now (Some (c.in_ok-number.number, c.in_ok-number.node)) c.in_ok-number.ensures.cases in
    let same = same_cut c.args.answering.now c.args.text.now c.in_ok-number.number.now c.in_ok-number.node.now slot host port cut.0 cut.1 t in
    let found = (contains_char 32 c.in_ok-number.node.now c.contains.result c.contains.ensures.cases (lit< tt)).0 c.if-contains.true in
    lacks_at 32 c.in_ok-number.node.now found.0 (lacks_from 32 c.in_ok-number.node.now (λ at. t.last (rw (sym same.1) at))) found.1 found.2

pub returns-in_err-slot : goal.returns-in_err-slot
returns-in_err-slot c =
    let cut = at_space c.args.text.now (Some (c.in_ok-number.number, c.in_ok-number.node)) c.in_ok-number.ensures.cases in
    rw c.from_residual-in_err-slot.ensures (λ slot host port t.
    let same = same_cut c.args.answering.now c.args.text.now c.in_ok-number.number.now c.in_ok-number.node.now slot host port cut.0 cut.1 t in
    c.in_err-slot.ensures slot (subst (λ text. IsSlotText text slot) (sym same.0) t.told))

pub returns-in_err-host : goal.returns-in_err-host
returns-in_err-host c =
    let cut = at_space c.args.text.now (Some (c.in_ok-number.number, c.in_ok-number.node)) c.in_ok-number.ensures.cases in
    rw c.from_residual-in_err-host.ensures (λ slot host port t.
    let same = same_cut c.args.answering.now c.args.text.now c.in_ok-number.number.now c.in_ok-number.node.now slot host port cut.0 cut.1 t in
    c.in_err-host.ensures host port (subst (λ text. IsNodeText c.args.answering.now text host port) (sym same.1) t.named))

pub returns : goal.returns
returns c =
    let cut = at_space c.args.text.now (Some (c.in_ok-number.number, c.in_ok-number.node)) c.in_ok-number.ensures.cases in
    let none = lacks_each 32 c.in_ok-number.node.now (λ k l e.
    let found : c.contains.result ≡ true = (contains_char 32 c.in_ok-number.node.now c.contains.result c.contains.ensures.cases (lit< tt)).1 k l e in
    absurd (cc (c.if-contains.false))) in
    record {
      number = c.in_ok-number.number.now;
      node = c.in_ok-number.node.now;
      whole = cut.0;
      first = free_from 32 c.in_ok-number.number.now cut.1;
      last = free_from 32 c.in_ok-number.node.now none;
      told = c.in_ok-slot.ensures;
      named = c.in_ok-host.ensures;
    }
