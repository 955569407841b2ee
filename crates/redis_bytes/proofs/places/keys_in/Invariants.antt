use Rattle.std.proofs.Common.{◌≡◌, ◌<◌, ◌^◌, ℕ, List, Some, length, take}
use Rattle.std.specs.List.{AllZip, sum_by}
use Rattle.redis_combiners.specs.KeyPlaces.{places}
use Rattle.redis_bytes.proofs.places.keys_in.Given as goal

-- the keys of the first lists
abbrev pub invariant-loop-list : goal.invariant-loop-list
invariant-loop-list l = (keys : List (List ℕ)) → AllZip (λ route own. places l.pattern route.1.items ≡ Some own) l.routes keys
    → sum_by (λ own. length own) keys < 2 ^ 63 → l.count ≡ sum_by (λ own. length own) (take l.list-index keys)
