-- What a client stands on.
use Rattle.redis_routing.specs.Registry.{Registrations}
use Rattle.wire.specs.declared.logged.Logged.{Logged}
use Rattle.wire.specs.declared.wire_nodes.WireNodes.{WireNodes}

-- the connections of a client
abbrev pub wire_in : {W M : Type 0} → WireNodes W M → W
wire_in nodes = nodes.wire

-- the names that are registered with it
abbrev pub registry_in : {W M : Type 0} → WireNodes W M → Registrations
registry_in nodes = nodes.registry

-- the transport of logged connections
abbrev pub transport_in : {T : Type 0} → Logged T → T
transport_in wire = wire.transport
