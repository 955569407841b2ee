use Rattle.std.proofs.Common.{◌≡◌, map, take}
use Rattle.redis_routing.specs.Split.{slots_of, split_part}
use Rattle.redis_bytes.specs.Requests.{AreWritten}
use Rattle.redis_bytes.proofs.splitting.parts_of.Given as goal

-- the parts of the first slots are written, and their routes are there
abbrev pub invariant-loop-number : goal.invariant-loop-number
invariant-loop-number l = record {
  routes : l.routes.items ≡ map (λ r. r.0) (take l.number l.split.routes);
  written : AreWritten (map (split_part l.split) (take l.number (slots_of l.split.routes))) l.ends.items l.bytes.items;
}
