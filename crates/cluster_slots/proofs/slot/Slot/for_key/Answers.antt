use Rattle.std.proofs.Common.{rules, ◌%◌}
use Rattle.cluster_slots.specs.KeySlot.{IsKeySlot}
use Rattle.cluster_slots.proofs.HashTags.{tag_law}
use Rattle.cluster_slots.proofs.Tags.{key_slot_is}
use Rattle.cluster_slots.proofs.slot.Slot.for_key.Goals as goal

pub returns-clause-value : goal.returns-clause-value
returns-clause-value c =
    let own : IsKeySlot c.args.key.now (c.crc16.result % 16384) = search rules in
    key_slot_is c.args.key.now (c.crc16.result % 16384) own

pub returns-clause-tag : goal.returns-clause-tag
returns-clause-tag c = λ other tag slot here there is.
    let own : IsKeySlot c.args.key.now (c.crc16.result % 16384) = search rules in
    tag_law c.args.key.now other tag (c.crc16.result % 16384) slot own here there is
