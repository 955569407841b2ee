use Rattle.std.proofs.Common.{◌≡◌, drop, map}
use Rattle.redis_routing.specs.Lookup.{lookup_name}
use Rattle.redis_routing.proofs.lookup.look_up.Given as goal

-- the name is looked up among the rows that are left
abbrev pub invariant-loop-row : goal.invariant-loop-row
invariant-loop-row g l =
    lookup_name (map (λ row. (row.0.now, row.1)) (drop l.row-index l.rows)) l.name ≡ lookup_name (map (λ row. (row.0.now, row.1)) l.rows) l.name
