use Rattle.std.proofs.Common.{Some, map}
use Rattle.std.specs.List.{range_with_len}
use Rattle.redis_routing.specs.Command.{argument}
use Rattle.redis_bytes.proofs.PartArguments.{Adds, Keeps}
use Rattle.redis_bytes.proofs.splitting.push_name.Given as goal

-- the first words were added, and what was there stays
abbrev pub invariant-loop-place : goal.invariant-loop-place
invariant-loop-place l = record {
  added : Adds l.fn.out.items (map (argument (map Some l.command)) (range_with_len 0 l.place)) l.out.items;
  before : Keeps l.fn.out.items l.out.items;
}
