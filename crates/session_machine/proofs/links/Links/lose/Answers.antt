use Rattle.session_machine.proofs.Outcomes.{if_some, if_none}
use Rattle.session_machine.proofs.LinkSlots.{read_link, happens_on, same_links, still_kept, none_waits}
use Rattle.session_machine.proofs.links.Links.lose.Goals as goal

pub invariant_of-self : goal.invariant_of-self
invariant_of-self c = still_kept c.self.inside.free.items c.self.inside.slots.items c.args.number c.in-Some.link _ c.self.invariant (read_link c.self.inside.slots.items c.args.self.now c.args.number c.index_mut.result.now c.in-Some.link c.requires.0 c.self.view_is c.requires.1 c.index_mut.ensures.value c.in-Some.is)

pub returns-clause-lost : goal.returns-clause-lost
returns-clause-lost c = if_some c.lose.result c.lose.ensures.lost (λ lost h. happens_on c.self.inside.slots.items c.args.self.now c.args.number c.index_mut.result.now c.in-Some.link c.requires.0 c.lose.new.self _ c.self.view_is c.requires.1 c.index_mut.ensures.value c.in-Some.is h)

pub returns-clause-none : goal.returns-clause-none
returns-clause-none c = if_none c.lose.result c.lose.ensures.none (λ h. (none_waits c.self.inside.slots.items c.args.self.now c.args.number c.index_mut.result.now c.in-Some.link c.requires.0 c.self.view_is c.requires.1 c.index_mut.ensures.value c.in-Some.is h.0, same_links c.self.inside.slots.items c.args.self.now c.args.number c.index_mut.result.now c.in-Some.link c.requires.0 c.lose.new.self c.self.view_is c.requires.1 c.index_mut.ensures.value c.in-Some.is h.1))
