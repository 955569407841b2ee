use Rattle.session_machine.proofs.Outcomes.{on_ok}
use Rattle.session_machine.proofs.LinkSlots.{read_link, happens_on, still_kept}
use Rattle.session_machine.proofs.links.Links.ask.Goals as goal

pub invariant_of-self : goal.invariant_of-self
invariant_of-self c = still_kept c.self.inside.free.items c.self.inside.slots.items c.args.number c.in-Some.link _ c.self.invariant (read_link c.self.inside.slots.items c.args.self.now c.args.number c.index_mut.result.now c.in-Some.link c.requires.open.0 c.self.view_is c.requires.open.1 c.index_mut.ensures.value c.in-Some.is)

pub returns-clause-ok : goal.returns-clause-ok
returns-clause-ok c = on_ok c.ask.result c.ask.ensures.ok (λ h. happens_on c.self.inside.slots.items c.args.self.now c.args.number c.index_mut.result.now c.in-Some.link c.requires.open.0 c.ask.new.self _ c.self.view_is c.requires.open.1 c.index_mut.ensures.value c.in-Some.is h)
