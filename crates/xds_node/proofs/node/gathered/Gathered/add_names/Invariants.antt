use Rattle.std.proofs.Common.{map, take}
use Rattle.std.specs.String.{string_bytes}
use Rattle.xds_node.specs.Gathered.{Gains}
use Rattle.xds_node.proofs.node.gathered.Gathered.add_names.Given as goal

abbrev pub invariant-loop-name : goal.invariant-loop-name
invariant-loop-name l = Gains l.kind (map string_bytes (take l.name-index l.names)) l.initial.self l.self
