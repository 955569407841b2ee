-- The address at an index among the candidates is a candidate. Strategies prove their law
-- `picks_candidates` by this.
use Rattle.std.proofs.Common.{◌≡◌, ℕ, zero, suc, ◌⊎◌, inl, inr, List, ◌∷◌, Option, Some, None, Contains, slice_get}
use Rattle.std.specs.Option.{option_map_or}
use Rattle.std.proofs.lemmas.Option.{slice_get_within, get_or_from_slice_get}
use Rattle.cluster_slots.specs.Address.{Address}
use Rattle.cluster_map.specs.Candidates.{Candidates, IsCandidate, primary_then_replicas}

Contains-at : (addresses : List Address) (address : Address) (place : ℕ)
    → slice_get addresses place ≡ Some address → Contains addresses address
Contains-at addresses address place there = (
  place,
  slice_get_within addresses place address there,
  get_or_from_slice_get addresses place address address there,
)

-- the replica at an index is a candidate
pub IsCandidate-replica : (c : Candidates) (address : Address) (place : ℕ)
    → slice_get c.replicas place ≡ Some address → IsCandidate c address
IsCandidate-replica c address place there = inr (Contains-at c.replicas address place there)

one_of : (primary : Option Address) (replicas : List Address) (address : Address) (place : ℕ)
    → slice_get (option_map_or (λ p. p ∷ replicas) primary replicas) place ≡ Some address
    → (primary ≡ Some address) ⊎ Contains replicas address
one_of None replicas address place there = inr (Contains-at replicas address place there)
one_of (Some primary) replicas address zero there = inl there
one_of (Some primary) replicas address (suc place) there =
    inr (Contains-at replicas address place there)

-- the address at an index of the primary, if it is a candidate, and the replicas is a candidate
pub IsCandidate-in_order : (c : Candidates) (address : Address) (place : ℕ)
    → slice_get (primary_then_replicas c) place ≡ Some address → IsCandidate c address
IsCandidate-in_order c address place there = one_of c.primary c.replicas address place there
