use Rattle.std.proofs.Common.{◌≡◌, take}
use Rattle.std.specs.List.{flat_map}
use Rattle.redis_bytes.specs.Table.{node_line, addresses, ArePlain}
use Rattle.redis_bytes.proofs.tables.lines_of.Given as goal

abbrev pub invariant-loop-node : goal.invariant-loop-node
invariant-loop-node l = record {
  lines : l.lines.items ≡ flat_map node_line (addresses (take l.node-index l.nodes));
  plain : ArePlain (addresses (take l.node-index l.nodes));
}
