use Rattle.std.proofs.Common.{◌≡◌, ◌-◌, ℕ, length, slice_get}
use Rattle.std.specs.Option.{option_and_then}
use Rattle.session_machine.specs.CallerTable.{in_slot}
use Rattle.session_machine.proofs.caller_table.make_room.Given as goal

abbrev pub invariant-loop-near : goal.invariant-loop-near
invariant-loop-near l = (n : ℕ) → option_and_then in_slot (slice_get l.near.items n) ≡ option_and_then in_slot (slice_get l.initial.near.items n)

abbrev pub decreases-loop-near : goal.decreases-loop-near
decreases-loop-near l = l.count - length l.near.items
