use Rattle.session_machine.proofs.callers.Callers.is_held_back.Goals as goal
use Rattle.session_core.specs.Order.{MayAsk}
use Rattle.std.proofs.Common.{subst, sym}

pub returns-in-Some : goal.returns-in-Some
returns-in-Some c = λ held link may. c.is_held_back.ensures held link
    (subst (MayAsk c.args.place link) (sym (c.in-Some.ensures.some)) may)
