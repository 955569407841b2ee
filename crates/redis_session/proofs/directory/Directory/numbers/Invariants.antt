use Rattle.std.proofs.Common.{◌≡◌, ◌++◌, Some, drop, map}
use Rattle.std.specs.Prelude.{slice_get}
use Rattle.cluster_map.specs.Targets.{addresses_behind}
use Rattle.redis_session.proofs.directory.Directory.numbers.Given as goal

-- the numbers so far, and those of what is left
abbrev pub invariant-loop-address : goal.invariant-loop-address
invariant-loop-address l = map (λ n. slice_get l.self.nodes n) l.numbers.items
    ++ map Some (addresses_behind (drop l.address-index l.address-items)) ≡ map Some (addresses_behind l.address-items)
