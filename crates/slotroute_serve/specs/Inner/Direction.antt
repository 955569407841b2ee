-- For private functions, beside `specs/Direction.antt`.
use Rattle.std.specs.Prelude.{◌≡◌, ℕ, List, Some, IfSome, length, map}
use Rattle.redis_cluster.specs.Driven.{command_routes_by}
use Rattle.redis_cluster.specs.Names.{Names}
use Rattle.slotroute_serve.specs.declared.direction.Direction.{Direction}
use Rattle.slotroute_serve.specs.Direction.{send_order}

-- the order names the routes of the command with these words, if it has routes
abbrev pub IsOrderOf : Direction → Names → List (List ℕ) → List ℕ → Type 0
IsOrderOf direction names words order =
    IfSome (command_routes_by names (map Some words))
    (λ routes. order ≡ send_order direction (length routes))
