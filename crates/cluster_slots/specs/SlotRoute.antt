-- What a contract sees of a route.
use Rattle.std.specs.Prelude.{ℕ}
use Rattle.cluster_slots.specs.declared.slot.SlotAddr.{SlotAddr}

-- a slot number, and which of the slot's nodes
pub record SlotRoute : Type 0 where
  pub slot : ℕ
  pub addr : SlotAddr
