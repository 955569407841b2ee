use Rattle.std.proofs.Common.{◌≡◌, ◌++◌, map}
use Rattle.redis_session.specs.Begins.{new_slot_part}
use Rattle.redis_session.proofs.session.Session.slot_parts.Given as goal

-- the parts so far and those of what is left are the parts of all slots
abbrev pub invariant-loop-part : goal.invariant-loop-part
invariant-loop-part l = l.parts.items ++ map (new_slot_part l.may_refuse l.retries) l.part-iterator.rest.items
    ≡ map (new_slot_part l.may_refuse l.retries) l.fn.slots.items
