use Rattle.session_machine.proofs.Outcomes.{if_ok, on_err}
use Rattle.session_machine.proofs.LinkSlots.{read_link, still_kept, taken_on, has_reply}
use Rattle.session_machine.proofs.links.Links.take.Goals as goal

pub invariant_of-self : goal.invariant_of-self
invariant_of-self c = still_kept c.self.inside.free.items c.self.inside.slots.items c.args.number c.in-Some.link _ c.self.invariant (read_link c.self.inside.slots.items c.args.self.now c.args.number c.index_mut.result.now c.in-Some.link c.requires.0 c.self.view_is c.requires.1 c.index_mut.ensures.value c.in-Some.is)

pub returns-clause-taken : goal.returns-clause-taken
returns-clause-taken c = if_ok c.take.result c.take.ensures.taken (λ taken h. taken_on c.self.inside.slots.items c.args.self.now c.args.number c.index_mut.result.now c.in-Some.link c.requires.0 c.take.new.self taken c.self.view_is c.requires.1 c.index_mut.ensures.value c.in-Some.is h)

pub returns-clause-cause : goal.returns-clause-cause
returns-clause-cause c = on_err c.take.result c.take.ensures.cause (λ h. has_reply c.self.inside.slots.items c.args.self.now c.args.number c.index_mut.result.now c.in-Some.link c.requires.0 c.self.view_is c.requires.1 c.index_mut.ensures.value c.in-Some.is h)
