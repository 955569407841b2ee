-- Nodes whose other keys others write.
use Rattle.std.specs.Prelude.{◌≡◌, ℕ, suc, List, [], ◌∷◌, Bool, true, Some, map, IfSome, ⊤}
use Rattle.std.specs.List.{All}
use Rattle.redis_routing.specs.Registry.{Registrations}
use Rattle.redis_cluster.specs.MultiKey.{multi_key}
use Rattle.redis_cluster.specs.Unsplit.{Step, Keyspace}
use Rattle.wire.specs.Commands.{SaidCommand, after_command, IsCommandKept}

-- the keys of what was sent are among some
abbrev pub IsAmong : Registrations → (List ℕ → Bool) → SaidCommand → Type 0
IsAmong registered own s =
    IfSome (multi_key registered (map Some s.sent))
    (λ command. All (λ t. own t.key ≡ true) command.tuples)

-- two keyspaces hold the same at these keys
abbrev pub AreSameAt : {C : Type 0} → (List ℕ → Bool) → (one other : Keyspace C) → Type 0
AreSameAt own one other = (key : List ℕ) → own key ≡ true → one key ≡ other key

-- The nodes kept to the meaning, and before each send others may have written any other key.
abbrev pub AreKeptBeside : {C : Type 0} → Registrations → (List ℕ → Bool) → Step C → (ℕ → Bool)
    → List SaidCommand → Keyspace C → Type 0
AreKeptBeside registered own step took [] keyspace = ⊤
AreKeptBeside {C} registered own step took (s ∷ ss) keyspace =
    (now : Keyspace C) × AreSameAt own keyspace now
    × IsCommandKept registered step (took 0) s now
    × AreKeptBeside registered own step (λ number. took (suc number)) ss
    (after_command registered step (took 0) s now)
