use Rattle.std.proofs.Common.{◌+◌, Some, map, take}
use Rattle.redis_routing.specs.Command.{argument}
use Rattle.redis_bytes.proofs.PartArguments.{Adds, Keeps}
use Rattle.redis_bytes.proofs.splitting.push_args.Given as goal

-- the first arguments were added, and what was there stays
abbrev pub invariant-loop-index : goal.invariant-loop-index
invariant-loop-index l = record {
  added : Adds l.initial.out.items (map (λ i. argument (map Some l.command) (i + l.words)) (take l.index-index l.indices)) l.out.items;
  before : Keeps l.fn.out.items l.out.items;
}
