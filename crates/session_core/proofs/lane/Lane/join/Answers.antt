use Rattle.std.proofs.Common.{sym, ap, ◌∙◌, subst}
use Rattle.session_core.specs.Inner.Lane.{MayJoin}
use Rattle.session_core.specs.Inner.LaneForms.{lane_in}
use Rattle.session_core.proofs.lane.Lane.join.Goals as goal

pub join-requires : goal.join-requires
join-requires c = subst (MayJoin c.args.place) (sym c.self.view_is ∙ ap lane_in c.in-One.is ∙ sym c.in_ok-queues-in-One.ensures) c.requires

pub join-requires-in-Many : goal.join-requires-in-Many
join-requires-in-Many c = subst (MayJoin c.args.place) (sym c.self.view_is ∙ ap lane_in c.in-Many.is ∙ sym c.deref_mut.ensures.value) c.requires
