use Rattle.std.proofs.Common.{inl, inr, refl}
use Rattle.session_machine.proofs.CallerMaps.{forgotten}
use Rattle.session_machine.proofs.callers.Callers.forget_after.Goals as goal

pub returns-then-not-is_last : goal.returns-then-not-is_last
returns-then-not-is_last c = inr (c.is_last.ensures.no c.if-not-is_last.true, refl)

pub returns : goal.returns
returns c = inl (c.is_last.ensures.yes c.if-not-is_last.false, forgotten c.args.caller c.args.self.now (record { callers = c.remove-gone.new.self; spares = c.keep.new.self }) c.remove-gone.ensures)
