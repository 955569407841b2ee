-- What contracts see of nodes.
use Rattle.std.specs.Prelude.{List, Bool}
use Rattle.redis_cluster.specs.Trace.{Entry}
use Rattle.redis_cluster.specs.Unsplit.{Keyspace}

-- what they hold, what was sent so far, and whether the last send ran out of memory
pub record State (C : Type 0) : Type 0 where
  pub keyspace : Keyspace C
  pub trace : List Entry
  pub mark : Bool

abbrev pub state : {C : Type 0} → Keyspace C → List Entry → Bool → State C
state keyspace trace mark = record { keyspace = keyspace; trace = trace; mark = mark }
