-- The nodes that a read may go to.
use Rattle.std.specs.Prelude.{◌≡◌, ℕ, ◌⊎◌, List, ◌∷◌, Option, Some, Contains}
use Rattle.std.specs.Option.{option_map_or}
use Rattle.cluster_slots.specs.Address.{Address}

-- a slot, its primary if a read may go there, and its replicas
pub record Candidates : Type 0 where
  pub slot : ℕ
  pub primary : Option Address
  pub replicas : List Address

-- the address is that primary or a replica
abbrev pub IsCandidate : Candidates → Address → Type 0
IsCandidate c address = (c.primary ≡ Some address) ⊎ Contains c.replicas address

-- the candidates in order: that primary, and then the replicas
abbrev pub primary_then_replicas : Candidates → List Address
primary_then_replicas c = option_map_or (λ primary. primary ∷ c.replicas) c.primary c.replicas
