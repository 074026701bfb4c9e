-- The name of a node, which tells its tokens from those of any other node, and the number of its replica. This project's own.
--     NodeId, node_id_code   what no other node has
--     no_node                the name of no node
--     no_replica             the number of no replica
use Rattle.std.specs.Prelude.{ℕ, []}
use base.Stored.{Coded}
use Rattle.atomic_table.specs.Seated.{TableId, table_id_coded}

-- what no other node has
abbrev pub NodeId : Type 0
NodeId = TableId

abbrev pub node_id_code : Coded NodeId
node_id_code = table_id_coded

-- the name of no node
abbrev pub no_node : NodeId
no_node = record { words = 0; slots = 0; views_name = 0; atom = 0; block = 0; offset = 0; slot_names = [] }

-- the number of no replica
abbrev pub no_replica : ℕ
no_replica = 0
