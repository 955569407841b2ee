use Rattle.std.proofs.Common.{sym, []}
use Rattle.redis_routing.proofs.Search.{found_name, rising, not_found_name}
use Rattle.redis_routing.proofs.lookup.contains.Goals as goal

pub returns-in-Ok : goal.returns-in-Ok
returns-in-Ok c = sym (found_name (λ r. r.now) c.args.names.now c.args.name.now c.in-Ok.field-0 (record { ref_ptr = (0, 0); now = [] }) c.in-Ok.ensures.bound (c.in-Ok.ensures.position _))

pub returns-in-Err : goal.returns-in-Err
returns-in-Err c =
    let split = c.in-Err.ensures.position (rising (λ r. r.now) c.args.names.now c.args.name.now c.requires) in
    sym (not_found_name (λ r. r.now) c.args.names.now c.args.name.now c.in-Err.field-0 split.0 split.1)
