-- What a multi-key command does on nodes in memory.
use Rattle.std.specs.Prelude.{◌≡◌, ℕ, Bool, true, false, List, [], ◌∷◌, None, Some, codes, map, length, ⊤}
use Rattle.cluster_map.specs.Address.{Address}
use Rattle.cluster_map.specs.Candidates.{IsCandidate}
use Rattle.cluster_map.specs.RangeMap.{RangeEntry}
use Rattle.cluster_map.specs.RouteNode.{IsNodeOfRoute, IsPickedNode}
use Rattle.cluster_map.specs.SlotNodes.{SlotNodes}
use Rattle.cluster_map.specs.SlotRoute.{SlotRoute}
use Rattle.memory_nodes.specs.Cells.{Cell}
use Rattle.memory_nodes.specs.Nodes.{MayRefuse}
use Rattle.memory_nodes.specs.Steps.{step}
use Rattle.memory_nodes.specs.declared.nodes.MemoryNodes.{MemoryNodes}
use Rattle.redis_cluster.specs.Names.{Names}
use Rattle.redis_cluster.specs.Registry.{Registrations}
use Rattle.redis_cluster.specs.Driven.{request, command_routes_by, IsDriven, IsFirstUncovered}
use Rattle.redis_cluster.specs.State.{state}
use Rattle.redis_cluster.specs.ReadOnly.{is_among}
use Rattle.redis_cluster.specs.Trace.{Ending}
use Rattle.redis_cluster.specs.Trace as trace
use Rattle.redis_cluster.specs.Unsplit.{Keyspace}
use Rattle.redis_cluster.specs.declared.fault.PlanFault.{PlanFault}
use Rattle.redis_cluster.specs.declared.fault.PlanFault.TheVariants as unplanned
use Rattle.resp_core.specs.Reply.{Reply}
use Rattle.slotroute_serve.specs.Direction.{send_order}
use Rattle.slotroute_serve.specs.Printed.{command_lines}
use Rattle.slotroute_serve.specs.declared.direction.Direction.{Direction}
use Rattle.slotroute_serve.specs.declared.refusal.CommandFault.{CommandFault}
use Rattle.slotroute_serve.specs.declared.refusal.CommandFault.TheVariants.{Refused, Memory}
use Rattle.slotroute_serve.specs.declared.refusal.Refusal.{Refusal}
use Rattle.slotroute_serve.specs.declared.refusal.Refusal.TheVariants.{NotMultiKey, NotCovered, NodeRefused, ReplyLost, BadReply}

-- the names of the commands that only read
abbrev pub run_only_reads : List ℕ → Bool
run_only_reads = is_among (codes "MGET" ∷ codes "JSON.MGET" ∷ codes "EXISTS" ∷ [])

-- the names of the commands that only read, and these registered names
abbrev pub names_with : Registrations → Names
names_with registered = record { only_reads = run_only_reads; registered = registered }

-- the node of a route; with a strategy, a read may go to any candidate
abbrev pub IsRunNode : Bool → List (RangeEntry SlotNodes) → SlotRoute → Address → Type 0
IsRunNode false entries route address = IsNodeOfRoute entries route 0 address
IsRunNode true entries route address = IsPickedNode IsCandidate entries route address

-- The command was driven from one keyspace to another, its parts in the order of the direction. The
-- text has the parts that were sent and the reply.
pub record IsCommandRun (handed : Bool) (direction : Direction) (registered : Registrations)
    (entries : List (RangeEntry SlotNodes)) (words : List (List ℕ)) (old new : Keyspace Cell)
    (text : List ℕ) : Type 0 where
  pub order : List ℕ
  pub sent : List trace.Entry
  pub answer : Reply
  pub driven : IsDriven (IsRunNode handed entries) step
      (request (map Some words) (names_with registered) entries order) (state old [] false)
      (state new sent false) answer
  pub ordered : order ≡ send_order direction (length driven.delivered.routes)
  pub printed : text ≡ command_lines sent answer

-- Why a command is refused: it is no complete multi-key command, or its first route without a node
-- has this slot. Nodes in memory without a fuse and a plan cause no other refusal.
abbrev pub IsRunRefused : Registrations → List (RangeEntry SlotNodes) → List (List ℕ) → Refusal → Type 0
IsRunRefused registered entries words NotMultiKey =
    command_routes_by (names_with registered) (map Some words) ≡ None
IsRunRefused registered entries words (NotCovered slot) =
    (routes : List SlotRoute)
    × (command_routes_by (names_with registered) (map Some words) ≡ Some routes)
    × IsFirstUncovered entries routes slot
IsRunRefused registered entries words NodeRefused = ⊥
IsRunRefused registered entries words ReplyLost = ⊥
IsRunRefused registered entries words BadReply = ⊥

-- why a command is not run, except for memory
abbrev pub WhyNotRun : Registrations → List (RangeEntry SlotNodes) → List (List ℕ) → CommandFault
    → Type 0
WhyNotRun registered entries words (Refused refusal) = IsRunRefused registered entries words refusal
WhyNotRun registered entries words Memory = ⊤

-- what is reported of a command that has no plan
abbrev pub command_fault : PlanFault → CommandFault
command_fault unplanned.NotMultiKey = Refused NotMultiKey
command_fault (unplanned.NotCovered slot) = Refused (NotCovered slot)
command_fault unplanned.Memory = Memory

-- a refused command leaves the keys and the trace as they were
abbrev pub LeavesAllIfRefused : CommandFault → (old new : Keyspace Cell) → (before after : List trace.Entry)
    → Type 0
LeavesAllIfRefused (Refused refusal) old new before after = (new ≡ old) × (after ≡ before)
LeavesAllIfRefused Memory old new before after = ⊤

-- the nodes refuse and redirect nothing
abbrev pub RefuseNothing : MemoryNodes → Type 0
RefuseNothing nodes = (count : ℕ) (ending : Ending) → ¬ (MayRefuse nodes count ending)

-- the set has the names of the commands that only read
abbrev pub AreReadOnly : List (List ℕ) → Type 0
AreReadOnly names = (name : List ℕ) → is_among names name ≡ run_only_reads name
