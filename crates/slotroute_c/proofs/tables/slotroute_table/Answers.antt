use Rattle.std.proofs.Common.{◌≡◌, ◌<◌, ◌⊎◌, ℕ, List, length, refl, subst, rules}
use Rattle.cluster_map.specs.ReplyNode.{entries_in}
use Rattle.cluster_slots.specs.declared.slot.SlotAddr.{SlotAddr}
use Rattle.redis_bytes.specs.Table.{IsTable}
use Rattle.slotroute_c.specs.RouteNumbers.{addr_of}
use Rattle.slotroute_c.proofs.tables.slotroute_table.Goals as goal

pub returns-then-numbers-len-clause-too_small : goal.returns-then-numbers-len-clause-too_small
returns-then-numbers-len-clause-too_small c =
    let table = c.in-Ok-slot_table.table in
    let said = c.in-Ok-slot_table.ensures.table.0 in
    let read = c.in-Ok.answering.now in
    let asked : IsTable (entries_in read said) (addr_of c.args.addr) c.args.pick table = subst (λ (addr : SlotAddr). IsTable (entries_in read said) addr c.args.pick table) c.addr_of.ensures c.in-Ok-slot_table.ensures.table.2 in
    let is-table : IsTable (entries_in c.args.answering.now said) (addr_of c.args.addr) c.args.pick table = subst (λ (text : List ℕ). IsTable (entries_in text said) (addr_of c.args.addr) c.args.pick table) c.in-Ok.ensures.cases.0 asked in
    let count : c.len-told.result ≡ length table.numbers.items = search rules in
    let bytes : c.len-told-2.result ≡ length table.nodes.items = search rules in
    let small : (length c.args.numbers.now < length table.numbers.items) ⊎ (length c.args.nodes.now < length table.nodes.items) = search rules in
    λ answer. (table, record { said = said; is = c.in-Ok-slot_table.ensures.table.1; is_table = is-table; told = rw (count, bytes) refl }, small)

pub returns-then-nodes-len-clause-too_small : goal.returns-then-nodes-len-clause-too_small
returns-then-nodes-len-clause-too_small c =
    let table = c.in-Ok-slot_table.table in
    let said = c.in-Ok-slot_table.ensures.table.0 in
    let read = c.in-Ok.answering.now in
    let asked : IsTable (entries_in read said) (addr_of c.args.addr) c.args.pick table = subst (λ (addr : SlotAddr). IsTable (entries_in read said) addr c.args.pick table) c.addr_of.ensures c.in-Ok-slot_table.ensures.table.2 in
    let is-table : IsTable (entries_in c.args.answering.now said) (addr_of c.args.addr) c.args.pick table = subst (λ (text : List ℕ). IsTable (entries_in text said) (addr_of c.args.addr) c.args.pick table) c.in-Ok.ensures.cases.0 asked in
    let count : c.len-told.result ≡ length table.numbers.items = search rules in
    let bytes : c.len-told-2.result ≡ length table.nodes.items = search rules in
    let small : (length c.args.numbers.now < length table.numbers.items) ⊎ (length c.args.nodes.now < length table.nodes.items) = search rules in
    λ answer. (table, record { said = said; is = c.in-Ok-slot_table.ensures.table.1; is_table = is-table; told = rw (count, bytes) refl }, small)

pub returns-clause-done : goal.returns-clause-done
returns-clause-done c =
    let table = c.in-Ok-slot_table.table in
    let said = c.in-Ok-slot_table.ensures.table.0 in
    let read = c.in-Ok.answering.now in
    let asked : IsTable (entries_in read said) (addr_of c.args.addr) c.args.pick table = subst (λ (addr : SlotAddr). IsTable (entries_in read said) addr c.args.pick table) c.addr_of.ensures c.in-Ok-slot_table.ensures.table.2 in
    let is-table : IsTable (entries_in c.args.answering.now said) (addr_of c.args.addr) c.args.pick table = subst (λ (text : List ℕ). IsTable (entries_in text said) (addr_of c.args.addr) c.args.pick table) c.in-Ok.ensures.cases.0 asked in
    let count : c.len-told.result ≡ length table.numbers.items = search rules in
    let bytes : c.len-told-2.result ≡ length table.nodes.items = search rules in
    λ answer. (table, record { said = said; is = c.in-Ok-slot_table.ensures.table.1; is_table = is-table; told = rw (count, bytes) refl }, c.put_all.ensures, c.put_all-2.ensures)
