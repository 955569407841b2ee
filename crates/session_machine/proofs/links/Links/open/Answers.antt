use Rattle.std.proofs.Common.{◌≡◌, ◌<◌, ◌∙◌, [], ◌∷◌, length, length-set, length-append, append-nil, List, Option, Some, sym, subst, ap, arith}
use Rattle.session_core.specs.Channel.{Channel}
use Rattle.session_machine.specs.Free.{AreFree}
use Rattle.session_machine.proofs.LinkSlots.{free_within, one_less_free, grown_free, none_free, opens_free, opens_next}
use Rattle.session_machine.proofs.links.Links.open.Goals as goal

pub index_mut-requires : goal.index_mut-requires
index_mut-requires c = let h = free_within c.pop.new.self.items c.self.inside.free.items c.self.inside.slots.items c.in-Some.number c.self.invariant.0 c.in-Some.ensures.items in omega (arith, h)

pub invariant_of-self : goal.invariant_of-self
invariant_of-self c =
    let same = length-set c.self.inside.slots.items c.in-Some.number (Some c.new-link.result) in (
      one_less_free c.pop.new.self.items c.self.inside.free.items c.self.inside.slots.items c.in-Some.number c.new-link.result c.self.invariant.0 c.in-Some.ensures.items,
      omega (arith, same, c.self.invariant.1, c.in-Some.ensures.capacity),
    )

pub returns-in-Some-clause-ok : goal.returns-in-Some-clause-ok
returns-in-Some-clause-ok c = opens_free c.pop.new.self.items c.self.inside.free.items c.self.inside.slots.items c.args.self.now c.in-Some.number c.args.most c.new-link.result c.self.view_is c.self.invariant.0 c.in-Some.ensures.items c.new-link.ensures

pub returns-clause-ok : goal.returns-clause-ok
returns-clause-ok c = opens_next c.self.inside.slots.items c.args.self.now c.push.new.self.items c.len-number.result c.args.most c.new-link.result c.self.view_is (omega (arith, c.len-number.ensures)) c.new-link.ensures c.in_ok-push.ensures.items

pub returns-in-Some-clause-again : goal.returns-in-Some-clause-again
returns-in-Some-clause-again c = λ n there.
    subst (λ (xs : List (Option Channel)). c.in-Some.number < length xs) c.self.view_is (free_within c.pop.new.self.items c.self.inside.free.items c.self.inside.slots.items c.in-Some.number c.self.invariant.0 c.in-Some.ensures.items)

pub invariant_of-self-2 : goal.invariant_of-self-2
invariant_of-self-2 c =
    let same : c.reserve.new.self.items ≡ c.self.inside.free.items = c.in_ok-reserve.ensures.items ∙ (sym (append-nil c.pop.new.self.items) ∙ sym c.in_default.ensures.items) in
    let pushed = c.in_ok-push.ensures.items in
    let many = ap length pushed in (
      subst (λ ns. AreFree ns c.push.new.self.items) (sym same) (grown_free c.self.inside.free.items c.self.inside.slots.items c.push.new.self.items c.new-link.result c.self.invariant.0 pushed),
      omega (arith, many, length-append c.self.inside.slots.items (Some c.new-link.result ∷ []), c.in_ok-reserve.ensures.ok, c.len.ensures),
    )

pub returns-clause-again : goal.returns-clause-again
returns-clause-again c = λ n there. absurd (none_free c.self.inside.free.items c.self.inside.slots.items c.args.self.now c.self.invariant.0 c.self.view_is (omega (arith, c.in_default.ensures.cases.0)) n there)
