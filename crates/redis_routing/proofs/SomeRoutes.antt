-- A complete command has a route.
use Rattle.std.proofs.Common.{◌≡◌, ℕ, ◌<◌, List, Bool, true, length, arith}
use Rattle.std.proofs.lemmas.Grind.{common_steps}
use Rattle.cluster_slots.specs.ArgPattern.{fits}
use Rattle.cluster_slots.specs.declared.arg_pattern.MultiSlotArgPattern.{MultiSlotArgPattern}
use Rattle.redis_routing.specs.Routing.{routes_of}

pub some_route : (reads : Bool) (pattern : MultiSlotArgPattern) (present : List (List ℕ)) → fits pattern (length present) ≡ true → 0 < length (routes_of reads pattern present)
some_route reads pattern present fit = grind (arith, common_steps)
