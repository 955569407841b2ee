use Rattle.redis_session.proofs.due_machine.DueMachine.is_held_back.Goals as goal

pub returns : goal.returns
returns c = rw (← c.self.view_is) c.is_held_back.ensures
