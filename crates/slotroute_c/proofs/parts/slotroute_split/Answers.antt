use Rattle.std.proofs.Common.{◌≡◌, inl, ℕ, List, length, refl, subst, ap, ◌∙◌, rules}
use Rattle.redis_bytes.specs.declared.fault.BytesFault.TheVariants as faults
use Rattle.slotroute_c.specs.Buffers.{IsWritten}
use Rattle.slotroute_c.specs.Parts.{route_slots, IsTooSmall}
use Rattle.slotroute_c.proofs.parts.slotroute_split.Goals as goal

pub returns-in_default-clause-fault : goal.returns-in_default-clause-fault
returns-in_default-clause-fault c = λ done small. (faults.Memory, c.code_of-in_default.ensures.code, inl tt, c.code_of-in_default.ensures.told)

pub returns-then-slots-len-clause-too_small : goal.returns-then-slots-len-clause-too_small
returns-then-slots-len-clause-too_small c =
    let parts = c.in-Ok.parts in
    let count : c.len-told.result ≡ length parts.routes.items = search rules in
    let bytes : c.len-told-2.result ≡ length parts.bytes.items = search rules in
    let small : IsTooSmall parts (length c.args.slots.now) (length c.args.ends.now) (length c.args.out.now) = search rules in
    λ answer. (parts, c.in-Ok.ensures.parts, rw (count, bytes) refl, small)

pub returns-then-ends-len-clause-too_small : goal.returns-then-ends-len-clause-too_small
returns-then-ends-len-clause-too_small c =
    let parts = c.in-Ok.parts in
    let count : c.len-told.result ≡ length parts.routes.items = search rules in
    let bytes : c.len-told-2.result ≡ length parts.bytes.items = search rules in
    let small : IsTooSmall parts (length c.args.slots.now) (length c.args.ends.now) (length c.args.out.now) = search rules in
    λ answer. (parts, c.in-Ok.ensures.parts, rw (count, bytes) refl, small)

pub returns-then-out-len-clause-too_small : goal.returns-then-out-len-clause-too_small
returns-then-out-len-clause-too_small c =
    let parts = c.in-Ok.parts in
    let count : c.len-told.result ≡ length parts.routes.items = search rules in
    let bytes : c.len-told-2.result ≡ length parts.bytes.items = search rules in
    let small : IsTooSmall parts (length c.args.slots.now) (length c.args.ends.now) (length c.args.out.now) = search rules in
    λ answer. (parts, c.in-Ok.ensures.parts, rw (count, bytes) refl, small)

pub returns-clause-done : goal.returns-clause-done
returns-clause-done c =
    let parts = c.in-Ok.parts in
    let count : c.len-told.result ≡ length parts.routes.items = search rules in
    let bytes : c.len-told-2.result ≡ length parts.bytes.items = search rules in
    let found : c.in-Ok-slots_in.found.items ≡ route_slots parts.routes.items = c.in-Ok-slots_in.ensures.slots ∙ ap route_slots c.deref.ensures.value in
    let slots : IsWritten (route_slots parts.routes.items) c.args.slots.now c.put_all.new.buffer = subst (λ (xs : List ℕ). IsWritten xs c.args.slots.now c.put_all.new.buffer) found c.put_all.ensures in
    λ answer. (parts, c.in-Ok.ensures.parts, rw (count, bytes) refl, slots, c.put_all-2.ensures, c.put_all-3.ensures)
