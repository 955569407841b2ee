-- Where parts are asked.
use Rattle.std.specs.Prelude.{◌≡◌, ℕ, Some}
use Rattle.redis_session.specs.Asks.{asked_node}
use Rattle.redis_session.specs.Leads.{Serves}
use Rattle.redis_session.specs.SessionStates.{SessionState}
use Rattle.redis_session.specs.declared.schedule.Target.{Target}
use Rattle.redis_session.specs.declared.schedule.Target.TheVariants.{Serving, Asking}

-- the part may be asked at this node
abbrev pub IsFor : Target → SessionState → (call part node : ℕ) → Type 0
IsFor Serving s call part node = Serves s call part node
IsFor Asking s call part node = asked_node call part s.asks ≡ Some node
