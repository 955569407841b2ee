-- The numbers of nodes that a directory keeps for slots.
use Rattle.std.proofs.Common.{◌≡◌, ◌≢◌, ◌⊎◌, inl, inr, ◌++◌, [], ◌∷◌, ℕ, zero, suc, List, Some, All, Contains, length, take, replicate, subst, sym, ap, ◌∙◌}
use Rattle.std.specs.Prelude.{slice_get}
use Rattle.std.proofs.Math.Seq.{take-nil}
use Rattle.std.proofs.lemmas.Option.{same_Some}
use Rattle.cluster_map.specs.EachOnce.{primaries_in}
use Rattle.cluster_slots.specs.Address.{Address}
use Rattle.redis_session.specs.Directory.{Directory, IsKnownAmong, IsNodeOf}
use Rattle.redis_session.specs.Inner.SlotNumbers.{AreKept, AreNodes, SetsNumber, no_node}
use Rattle.redis_session.specs.Table.{LearnsMoved, Table}
use Rattle.redis_session.proofs.Elements.{all_at}
use Rattle.redis_session.proofs.NodeTables.{keeps_node}

at_front : {X : Type 0} (xs ys : List X) (k : ℕ) (x : X) → slice_get xs k ≡ Some x → slice_get (xs ++ ys) k ≡ Some x
at_front [] ys k x at = absurd (cc at)
at_front (y ∷ xs) ys zero x at = at
at_front (y ∷ xs) ys (suc k) x at = at_front xs ys k x at

-- more nodes are known
nodes_grow : (numbers : List ℕ) (nodes more : List Address) (table : Table) → AreNodes numbers (record { nodes = nodes; table = table }) → AreNodes numbers (record { nodes = nodes ++ more; table = table })
nodes_grow numbers nodes more table are slot node at some = let it = are slot node at some in (it.0, at_front nodes more node it.0 it.1, it.2)

-- where no number was kept
blank : (n : ℕ) (i x : ℕ) → slice_get (replicate n no_node) i ≡ Some x → x ≡ no_node
blank zero i x at = absurd (cc at)
blank (suc n) zero x at = same_Some x no_node (sym at)
blank (suc n) (suc i) x at = blank n i x at

pub sets_first : (n m slot number : ℕ) (old mid new : List ℕ) → length old ≡ 0 → mid ≡ take n old ++ replicate m no_node → SetsNumber slot number mid new → SetsNumber slot number old new
sets_first n m slot number [] mid new none is sets other node at some = by (sets other node at some)
  where
    by : ((other ≡ slot) × (node ≡ number)) ⊎ ((other ≢ slot) × (slice_get mid other ≡ Some node)) → ((other ≡ slot) × (node ≡ number)) ⊎ ((other ≢ slot) × (slice_get [] other ≡ Some node))
    by (inl same) = inl same
    by (inr kept) = absurd (some (blank m other node (subst (λ xs. slice_get xs other ≡ Some node) (is ∙ ap (λ xs. xs ++ replicate m no_node) (take-nil n)) kept.1)))
sets_first n m slot number (x ∷ old) mid new none is sets other node at some = absurd (cc none)

-- a number is kept
nodes_kept : (old new : List ℕ) (slot number : ℕ) (d : Directory) → AreNodes old d → IsNodeOf slot number d → SetsNumber slot number old new → AreNodes new d
nodes_kept old new slot number d are is sets other node at some = by (sets other node at some)
  where
    by : ((other ≡ slot) × (node ≡ number)) ⊎ ((other ≢ slot) × (slice_get old other ≡ Some node)) → IsNodeOf other node d
    by (inl same) = subst (λ s. IsNodeOf s node d) (sym same.0) (subst (λ n. IsNodeOf slot n d) (sym same.1) is)
    by (inr kept) = are other node kept.1 some

-- the number of a slot is forgotten, since the slot has another node
nodes_moved : (old new : List ℕ) (slot : ℕ) (address : Address) (nodes : List Address) (before after : Table) → AreNodes old (record { nodes = nodes; table = before })
    → LearnsMoved slot address before after → SetsNumber slot no_node old new → AreNodes new (record { nodes = nodes; table = after })
nodes_moved old new slot address nodes before after are learns sets other node at some = by (sets other node at some)
  where
    by : ((other ≡ slot) × (node ≡ no_node)) ⊎ ((other ≢ slot) × (slice_get old other ≡ Some node)) → IsNodeOf other node (record { nodes = nodes; table = after })
    by (inl same) = absurd (some same.1)
    by (inr kept) = let it = are other node kept.1 some in (it.0, it.1, (keeps_node slot address before after learns other kept.0 (Some it.0)).1 it.2)

-- ---- with the numbers of primaries

pub kept_grow : (by_slot primaries : List ℕ) (nodes more : List Address) (table : Table) → AreKept by_slot primaries (record { nodes = nodes; table = table }) → AreKept by_slot primaries (record { nodes = nodes ++ more; table = table })
kept_grow by_slot primaries nodes more table kept = record {
  nodes_are = nodes_grow by_slot nodes more table kept.nodes_are;
  primaries_are = λ place node at. let is = kept.primaries_are place node at in (is.0, at_front nodes more node is.0 is.1, is.2);
}

pub kept_number : (old new primaries : List ℕ) (slot number : ℕ) (d : Directory) → AreKept old primaries d → IsNodeOf slot number d → SetsNumber slot number old new → AreKept new primaries d
kept_number old new primaries slot number d kept is sets = record { nodes_are = nodes_kept old new slot number d kept.nodes_are is sets; primaries_are = kept.primaries_are }

pub kept_moved : (old new primaries : List ℕ) (slot : ℕ) (address : Address) (nodes : List Address) (before after : Table) → AreKept old primaries (record { nodes = nodes; table = before })
    → LearnsMoved slot address before after → SetsNumber slot no_node old new → AreKept new primaries (record { nodes = nodes; table = after })
kept_moved old new primaries slot address nodes before after kept learns sets = record {
  nodes_are = nodes_moved old new slot address nodes before after kept.nodes_are learns sets;
  primaries_are = λ place node at. let is = kept.primaries_are place node at in (is.0, is.1, subst (λ map. Contains (primaries_in map) is.0) (sym learns.map) is.2);
}

pub kept_primaries : (by_slot old new : List ℕ) (d : Directory) → AreKept by_slot old d → All (IsKnownAmong (primaries_in d.table.map) d.nodes) new → AreKept by_slot new d
kept_primaries by_slot old new d kept are =
    record { nodes_are = kept.nodes_are; primaries_are = λ place node at. all_at (IsKnownAmong (primaries_in d.table.map) d.nodes) new place node are at }
