use Rattle.std.proofs.Common.{◌≡◌, ℕ, List, Some}
use Rattle.redis_combiners.specs.KeyPlaces.{places}
use Rattle.redis_bytes.proofs.PartNumbers.{HasNumber}
use Rattle.redis_bytes.proofs.places.put_number.Given as goal

-- the number stands at the first keys
abbrev pub invariant-loop-i : goal.invariant-loop-i
invariant-loop-i l = (keys : List ℕ) → places l.fn.pattern l.list ≡ Some keys → HasNumber l.fn.found keys l.number l.i l.found
