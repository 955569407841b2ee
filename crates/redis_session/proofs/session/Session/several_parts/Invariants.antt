use Rattle.std.proofs.Common.{◌≡◌, length}
use Rattle.redis_session.specs.Begins.{AreNewParts}
use Rattle.redis_session.proofs.session.Session.several_parts.Given as goal

abbrev pub invariant-loop : goal.invariant-loop
invariant-loop l = AreNewParts l.fn.self.settings.retries l.request l.order l.may_refuse l.parts.items
    × (length l.parts.items ≡ l.counter)
