use Rattle.std.proofs.Common.{sym, subst, length-set, List, Option, None, arith}
use Rattle.session_core.specs.Channel.{Channel}
use Rattle.session_machine.specs.Links.{HasLink}
use Rattle.session_machine.proofs.LinkSlots.{freed, has_room, forgets_at}
use Rattle.session_machine.proofs.links.Links.forget.Goals as goal

pub push_reserved-requires : goal.push_reserved-requires
push_reserved-requires c =
    let there : HasLink c.self.inside.slots.items c.args.number c.requires.0 = subst (λ (xs : List (Option Channel)). HasLink xs c.args.number c.requires.0) (sym c.self.view_is) c.requires.1 in
    let room = has_room c.self.inside.free.items c.self.inside.slots.items c.args.number c.requires.0 c.self.invariant.0 there in
    omega (arith, room, c.self.invariant.1)

pub invariant_of-self : goal.invariant_of-self
invariant_of-self c =
    let there : HasLink c.self.inside.slots.items c.args.number c.requires.0 = subst (λ (xs : List (Option Channel)). HasLink xs c.args.number c.requires.0) (sym c.self.view_is) c.requires.1 in
    let same = length-set c.self.inside.slots.items c.args.number None in (
      freed c.self.inside.free.items c.push_reserved.new.self.items c.self.inside.slots.items c.args.number c.requires.0 c.push_reserved.ensures.items c.self.invariant.0 there,
      omega (arith, same, c.self.invariant.1, c.push_reserved.ensures.capacity),
    )

pub returns : goal.returns
returns c = forgets_at c.self.inside.slots.items c.args.self.now c.args.number c.requires.0 c.self.view_is c.requires.1
