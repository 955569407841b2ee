-- How the address of a node of a session is told.
use Rattle.std.specs.Prelude.{◌≡◌, ℕ, List, Some, length, slice_get}
use Rattle.cluster_slots.specs.Address.{Address}
use Rattle.slotroute_c.specs.Buffers.{IsWritten}
use Rattle.slotroute_c.specs.declared.session_nodes.SessionAddress.{SessionAddress}

-- The node of this number has this port and this host, which is written to the front of the bytes.
pub record IsAddressOf (node : ℕ) (nodes : List Address) (old new : List ℕ) (told : SessionAddress) : Type 0 where
  pub address : Address
  pub node_is : slice_get nodes node ≡ Some address
  pub host : IsWritten address.host old new
  pub told_is : told ≡ record { host_len = length address.host; port = address.port }
