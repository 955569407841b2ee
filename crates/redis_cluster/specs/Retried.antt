-- What a multi-key command leaves at the nodes, and answers, if its parts were sent, and sent again
-- after a node refused or redirected them.
use Rattle.std.specs.Prelude.{◌≡◌, ℕ, List, [], ◌∷◌, Option, Some, map}
use Rattle.resp_core.specs.Reply.{Reply}
use Rattle.cluster_slots.specs.Address.{Address}
use Rattle.cluster_slots.specs.SlotRoute.{SlotRoute}
use Rattle.cluster_map.specs.Fallback.{IsFallback}
use Rattle.redis_cluster.specs.MultiKey.{part_by_slot}
use Rattle.redis_cluster.specs.Trace.{Entry, Ending, answered}
use Rattle.redis_cluster.specs.Unsplit.{Step}
use Rattle.redis_cluster.specs.Retry.{Try, AttemptsOf}
use Rattle.redis_cluster.specs.Driven.{Request, IsDeliveredBy, IsDrivenBy}
use Rattle.redis_cluster.specs.State.{State}
use Rattle.redis_cluster.specs.Faults.{IsCutBy, IsFaultBy}
use Rattle.redis_cluster.specs.declared.fault.DriveFault.{DriveFault}

-- What is tried for a route: its own part, at a node of the route, and then at the addresses that
-- the map has to fall back on.
pub record IsTryOf (IsNode : SlotRoute → Address → Type 0) (retries : ℕ) (r : Request)
    (route : SlotRoute) (try : Try) : Type 0 where
  pub part : map Some try.part ≡ part_by_slot r.names.registered r.arguments route.slot
  pub node : Address
  pub is_node : IsNode route node
  pub fallback : List Address
  pub is_fallback : IsFallback r.map route fallback
  pub places : try.places ≡ node ∷ fallback
  pub retries_are : try.retries ≡ retries

module _ (IsTry : SlotRoute → Try → Type 0) where
  -- the trace grew by the attempts of each of these routes, in their order, and the last attempt of
  -- each was answered
  abbrev pub AreTried : List SlotRoute → (old new : List Entry) → Type 0
  AreTried [] old new = new ≡ old
  AreTried (route ∷ routes) old new =
      (try : Try) × (mid : List Entry) × IsTry route try × AttemptsOf try (Some answered) old mid
      × AreTried routes mid new

  -- the trace grew by what was tried for a route, which ended so
  abbrev pub EndsTried : SlotRoute → Option Ending → (old new : List Entry) → Type 0
  EndsTried route ending old new = (try : Try) × IsTry route try × AttemptsOf try ending old new

-- `IsTry` says of a request what is tried for each of its routes.
module _ (IsTry : Request → SlotRoute → Try → Type 0) where
  -- `IsDeliveredBy` and `IsDrivenBy` of parts that are tried until they are answered
  abbrev pub AreAllTried : Request → (old new : List Entry) → Type 0
  AreAllTried r old new = IsDeliveredBy (AreTried (IsTry r)) r old new

  abbrev pub IsRetried : {C : Type 0} → Step C → Request → (old new : State C) → Reply → Type 0
  IsRetried step r old new value = IsDrivenBy (AreTried (IsTry r)) step r old new value

  -- `IsCutBy` and `IsFaultBy` of parts that are tried again
  abbrev pub IsRetryCut : {C : Type 0} → Request → (old new : State C) → (ℕ → Ending → Type 0)
      → DriveFault → ℕ → Type 0
  IsRetryCut r old new may_refuse fault count =
      IsCutBy (AreTried (IsTry r)) (EndsTried (IsTry r)) r old new may_refuse fault count

  abbrev pub IsRetryFault : {C : Type 0} → Step C → Request → (old new : State C)
      → (ℕ → Ending → Type 0) → DriveFault → ℕ → Type 0
  IsRetryFault step r old new may_refuse fault count =
      IsFaultBy (AreTried (IsTry r)) (EndsTried (IsTry r)) r old new may_refuse step fault count
