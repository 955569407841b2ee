use Rattle.std.proofs.Common.{◌≤◌, length, arith, length-take}
use Rattle.redis_routing.proofs.Ends.{last_decide, length-last, last_to_end}
use Rattle.redis_routing.proofs.lookup.are_same.Goals as goal

pub returns-then-starts_with : goal.returns-then-starts_with
returns-then-starts_with c =
    let enough : 4 ≤ length c.args.known.now = omega arith in
    last_decide 4 c.args.known.now c.args.name.now (omega arith) enough (omega arith) c.ends_with.result
    (grind (arith, length-take))
    (grind (arith, length-last 4 c.args.known.now enough, last_to_end 4 c.args.known.now enough))
