use Rattle.std.proofs.Common.{◌≡◌, ℕ, ◌<◌, List, subst, ap, ◌∙◌, arith}
use Rattle.std.specs.Borrow.{Bor}
use Rattle.std.specs.List.{flat_map}
use Rattle.std.specs.Prelude.{slice_index}
use Rattle.std.proofs.lemmas.List.{length-map}
use Rattle.std.proofs.lemmas.Result.{err_from_is_err_and}
use Rattle.cluster_slots.specs.Address.{Address}
use Rattle.cluster_map.specs.RangeMap.{RangeEntry}
use Rattle.cluster_map.specs.SlotNodes.{SlotNodes}
use Rattle.cluster_map.specs.ReplyNode.{entries_in}
use Rattle.redis_bytes.specs.Table.{IsNodeNumber, IsUnprinted, ArePlain, addresses, node_line}
use Rattle.redis_bytes.proofs.Untabled.{no_lines}
use Rattle.redis_bytes.proofs.tables.slot_table.Goals as goal

pub returns-in_err-nodes-clause-fault : goal.returns-in_err-nodes-clause-fault
returns-in_err-nodes-clause-fault c =
    let m = c.in_ok-map.ensures.entries in
    let nodes = c.in_ok-numbers.nodes.items in
    let numbers = c.in_ok-numbers.numbers.items in
    let numbered = λ (es : List (RangeEntry SlotNodes)). (slot : ℕ) → slot < 16384 → IsNodeNumber es (addresses nodes) (record { slot = slot; addr = c.args.addr }) c.args.pick (slice_index numbers slot) in
    let each : numbered (entries_in c.args.answering.now m.0) = subst numbered m.2 c.in_ok-numbers.ensures.each in
    let fault = c.in_err-nodes.field-0.0 in
    let unprinted : IsUnprinted (addresses nodes) fault = subst (λ (ns : List (Bor Address)). IsUnprinted (addresses ns) fault) c.deref.ensures.value c.in_err-nodes.ensures.fault in
    let p = err_from_is_err_and c.from_residual-in_err-nodes.result c.from_residual-in_err-nodes.ensures.1 in
    rw (p.1, p.2) (no_lines c.args.answering.now c.args.reply.now m.0 c.args.addr c.args.pick numbers (addresses nodes) m.1 c.in_ok-numbers.ensures.all (omega (arith, length-map nodes (λ (n : Bor Address). n.now), c.in_ok-numbers.ensures.few)) c.in_ok-numbers.ensures.used each fault unprinted)

pub returns-clause-table : goal.returns-clause-table
returns-clause-table c =
    let m = c.in_ok-map.ensures.entries in
    let nodes = c.in_ok-numbers.nodes.items in
    let numbered = λ (es : List (RangeEntry SlotNodes)). (slot : ℕ) → slot < 16384 → IsNodeNumber es (addresses nodes) (record { slot = slot; addr = c.args.addr }) c.args.pick (slice_index c.in_ok-numbers.numbers.items slot) in
    let each : numbered (entries_in c.args.answering.now m.0) = subst numbered m.2 c.in_ok-numbers.ensures.each in
    let lines : c.in_ok-nodes.nodes.items ≡ flat_map node_line (addresses nodes) = c.in_ok-nodes.ensures.lines ∙ ap (flat_map node_line) (ap addresses c.deref.ensures.value) in
    let plain : ArePlain (addresses nodes) = subst (λ (ns : List (Bor Address)). ArePlain (addresses ns)) c.deref.ensures.value c.in_ok-nodes.ensures.plain in
    (m.0, m.1, record { nodes = addresses nodes; few = omega (arith, length-map nodes (λ (n : Bor Address). n.now), c.in_ok-numbers.ensures.few); once = c.in_ok-numbers.ensures.once; used = c.in_ok-numbers.ensures.used; plain = plain; lines = lines; all = c.in_ok-numbers.ensures.all; each = each })
