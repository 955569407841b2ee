use Rattle.std.proofs.Common.{◌≡◌, ◌≤◌, ◌<◌, ℕ, length, get_or}
use Rattle.redis_bytes.specs.Table.{IsNodeNumber, AreUsed, AreNumbersOf, addresses}
use Rattle.redis_bytes.proofs.tables.numbers_in.Given as goal

-- the slots so far have their numbers, and the nodes so far are those of them
abbrev pub invariant-loop-slot : goal.invariant-loop-slot
invariant-loop-slot l = record {
  count : length l.numbers.items ≡ l.slot;
  few : length l.nodes.items ≤ l.slot;
  each : (k : ℕ) → k < l.slot → IsNodeNumber l.map (addresses l.nodes.items) (record { slot = k; addr = l.addr }) l.pick (get_or l.numbers.items k 0);
  used : AreUsed l.numbers.items (addresses l.nodes.items);
  placed : AreNumbersOf l.nodes.items l.places;
}
