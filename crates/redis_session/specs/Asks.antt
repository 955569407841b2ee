-- Where parts were sent by `ASK`.
use Rattle.std.specs.Prelude.{◌≡◌, ◌≢◌, ℕ, List, Option}
use Rattle.std.specs.BTreeMap.{is_at}
use Rattle.std.specs.declared.cmp.Ordering.{Ordering}
use Rattle.std.specs.Map.{lookup}
use Rattle.std.specs.Ordering.{nat_cmp, ordering_then}

-- the numbers of nodes, each with the call and the part that an `ASK` sent there
abbrev pub Asks : Type 0
Asks = List ((ℕ × ℕ) × ℕ)

abbrev pub seat_cmp : ℕ × ℕ → ℕ × ℕ → Ordering
seat_cmp x y = ordering_then (nat_cmp x.0 y.0) (nat_cmp x.1 y.1)

-- the node to which the last `ASK` sent this part of that call, if it is kept
abbrev pub asked_node : (call part : ℕ) → Asks → Option ℕ
asked_node call part asks = lookup (is_at (seat_cmp (call, part))) asks

-- This is where the last `ASK` sent the part now, or nowhere. Each other part was sent where it was sent before.
pub record SetsAsk (call part : ℕ) (node : Option ℕ) (old new : Asks) : Type 0 where
  pub is : asked_node call part new ≡ node
  pub others : (c p : ℕ) → ((c ≡ call) × (p ≡ part) → ⊥) → asked_node c p new ≡ asked_node c p old

-- each part of another call was sent where it was sent before
abbrev pub KeepsOtherAsks : (call : ℕ) → Asks → Asks → Type 0
KeepsOtherAsks call old new = (c p : ℕ) → c ≢ call → asked_node c p new ≡ asked_node c p old
