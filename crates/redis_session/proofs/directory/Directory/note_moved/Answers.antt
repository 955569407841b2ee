use Rattle.redis_session.proofs.SlotNumbers.{kept_moved}
use Rattle.redis_session.proofs.directory.Directory.note_moved.Goals as goal

pub invariant_of-self-2 : goal.invariant_of-self-2
invariant_of-self-2 c =
    kept_moved c.self.inside.by_slot.items c.set_number.new.numbers.items c.self.inside.primaries.items c.args.slot c.args.node c.self.inside.addresses.items c.self.inside.table c.note_moved.new.self
    c.self.invariant c.in_ok-note_moved.ensures.learns c.set_number.ensures
