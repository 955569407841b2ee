-- The nodes of a set, and the hash that finds them.
use Rattle.std.specs.Prelude.{ℕ, Bool, true, false, List, ◌++◌, fold, map}
use Rattle.std.specs.List.{flat_map}
use Rattle.std.specs.Hash as hashed
use Rattle.std.specs.Hash.DefaultHasher as sip
use Rattle.std.specs.declared.hash.DefaultHasher.{DefaultHasher}
use Rattle.std.specs.Hash.FoldHasher as folding
use Rattle.cluster_slots.specs.Address.{Address}
use Rattle.cluster_map.specs.declared.slot_map.node_set.counted.Counted.{Counted}
use Rattle.cluster_map.specs.declared.slot_map.node_set.node_hasher.NodeHasher.{NodeHasher}
use Rattle.cluster_map.specs.declared.slot_map.node_set.node_hasher.NodeHasher.TheVariants.{Fold, Sip}

-- the addresses of counted nodes
abbrev pub addresses_counted : List Counted → List Address
addresses_counted counted = map (λ c. c.node.now) counted

-- a hash after some bytes
abbrev pub write_to : NodeHasher → List ℕ → NodeHasher
write_to (Fold state) bytes = Fold (folding.write state bytes)
write_to (Sip state) bytes = Sip (sip.write state bytes)

-- whether it is the quick hash, the same for each list of nodes
abbrev pub is_quick : NodeHasher → Bool
is_quick (Fold state) = true
is_quick (Sip state) = false

-- what an address writes into a hash: the host, and then the port
abbrev pub hash_input_of : Address → List (List ℕ)
hash_input_of a = hashed.str a.host ++ hashed.u16 a.port

-- SipHash after some addresses, one after the other
abbrev pub after_addresses : DefaultHasher → List Address → DefaultHasher
after_addresses state addresses = fold sip.write state (flat_map hash_input_of addresses)

-- the hash that begins with all of these addresses
abbrev pub begun_with : List Address → NodeHasher
begun_with addresses = Sip (after_addresses sip.initial addresses)

-- its number
abbrev pub hash_of : NodeHasher → ℕ
hash_of (Fold state) = folding.finish state
hash_of (Sip state) = sip.finish state
