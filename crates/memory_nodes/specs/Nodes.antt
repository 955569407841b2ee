-- What nodes in memory hold, have been sent, and refuse.
use Rattle.std.specs.Prelude.{◌≡◌, ◌⊎◌, ℕ, ◌+◌, ◌-◌, ◌≤◌, List, Bool, true, false, cond, Option, None, Some, map, codes, nat_le, slice_get}
use Rattle.std.specs.List.{flat_map}
use Rattle.resp_core.specs.ErrorParts.{ErrorParts}
use Rattle.resp_core.specs.Reply.{Reply}
use Rattle.resp_core.specs.View.{view}
use Rattle.resp_core.specs.declared.error.ErrorKind.TheVariants.{Client}
use Rattle.redis_routing.specs.Registry.{Registrations}
use Rattle.redis_routing.specs.declared.info.Redirect.{Redirect}
use Rattle.redis_cluster.specs.Trace.{Entry, Ending, answered, refused, redirected, entry}
use Rattle.redis_cluster.specs.State.{State, state}
use Rattle.redis_cluster.specs.Unsplit.{Keyspace}
use Rattle.memory_nodes.specs.Cells.{Cell, keyspace_of}
use Rattle.memory_nodes.specs.Parts.{words}
use Rattle.memory_nodes.specs.declared.nodes.MemoryNodes.{MemoryNodes}
use Rattle.memory_nodes.specs.declared.planned.Planned.{Planned}
use Rattle.memory_nodes.specs.declared.planned.Planned.TheVariants as planned
use Rattle.memory_nodes.specs.declared.trace_entry.TraceEntry.{TraceEntry}

-- the one error of a refusal
abbrev pub node_refused : ErrorParts
node_refused = record { kind = Client; desc = codes "node refused"; detail = None }

-- Whether a fuse refuses the send that finds this many entries in the trace. A fuse of 3 lets two
-- sends through; a fuse of 1 or 0 lets none.
abbrev pub IsFused : Option ℕ → ℕ → Type 0
IsFused None count = ⊥
IsFused (Some limit) count = limit ≤ count + 1

-- an item of a plan, or an answer after the last item
abbrev pub or_answer : Option Planned → Planned
or_answer None = planned.Answer
or_answer (Some item) = item

-- what is planned for the send that finds `count` entries in the trace, by a plan made at `base`
abbrev pub planned_for : List Planned → (base count : ℕ) → Planned
planned_for plan base count =
    cond (nat_le base count) (or_answer (slice_get plan (count - base))) planned.Answer

-- the ending of a planned send that is not answered
abbrev pub EndsSo : Planned → Ending → Type 0
EndsSo planned.Answer ending = ⊥
EndsSo planned.Refuse ending = ending ≡ refused node_refused
EndsSo (planned.Redirect redirect) ending = ending ≡ redirected redirect

-- how a send ended, by whether the node answered and where it redirected the client
abbrev pub ending_in : Bool → Option Redirect → Ending
ending_in true redirect = answered
ending_in false None = refused node_refused
ending_in false (Some redirect) = redirected redirect

-- the trace entry of one send
abbrev pub entry_of : TraceEntry → Entry
entry_of e = entry e.node (words e.args.items) (ending_in e.answered e.redirect)

abbrev pub keyspace_in : MemoryNodes → Keyspace Cell
keyspace_in nodes = keyspace_of nodes.cells

-- the names that commands may have beside the names of the tables
abbrev pub registered_in : MemoryNodes → Registrations
registered_in nodes = nodes.registry

abbrev pub trace_in : MemoryNodes → List Entry
trace_in nodes = map entry_of nodes.trace.items

-- the replies to one send: one if the node answered
abbrev pub replies_to : TraceEntry → List Reply
replies_to e = map (λ noted. view noted.2) e.reply.items

-- the replies to all sends of the trace, in order
abbrev pub replies_in : MemoryNodes → List Reply
replies_in nodes = flat_map replies_to nodes.trace.items

-- whether the last send ran out of memory
abbrev pub mark_in : MemoryNodes → Bool
mark_in nodes = nodes.mark

abbrev pub state_in : MemoryNodes → State Cell
state_in nodes = state (keyspace_in nodes) (trace_in nodes) (mark_in nodes)

-- the limit of the fuse, if one was set
abbrev pub fuse_in : MemoryNodes → Option ℕ
fuse_in nodes = nodes.fuse

-- what is planned for the send that finds `count` entries in the trace
abbrev pub planned_in : MemoryNodes → ℕ → Planned
planned_in nodes count = planned_for nodes.plan.items nodes.base count

-- A send that the fuse refuses ends with the one error, and any other as it is planned.
abbrev pub MayRefuse : MemoryNodes → ℕ → Ending → Type 0
MayRefuse nodes count ending =
    (IsFused (fuse_in nodes) count × (ending ≡ refused node_refused))
    ⊎ ((IsFused (fuse_in nodes) count → ⊥) × EndsSo (planned_in nodes count) ending)
