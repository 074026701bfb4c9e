-- How much a replica holds. This project's own.
--     counted_more   what is counted once one entry more is looked at: a resource that is live, or a deletion
--     counted        what is counted of entries, from what was counted before
--     held_by_count  how much is held of a type, by all its entries, after so many changes
--     held_of        the same with how many bytes the whole response has
--     held_at        what is held of a type
use Rattle.std.specs.Prelude.{ℕ, List, [], ◌∷◌, Option, Some, None}
use Rattle.xds_resource.specs.declared.types.TypeName.{TypeName}
use Rattle.xds_resource.specs.declared.types.TypeName.TheVariants.{Cluster, Endpoint, Listener, Route, Secret}
use Rattle.xds_resource.specs.Writes.{StampedWrite}
use Rattle.xds_stats.specs.Boards.{more}
use Rattle.xds_stats.specs.Sizes.{first_response, response_bytes}
use Rattle.xds_stats.specs.declared.look.TypeSizes.{TypeSizes}
use Rattle.xds_stats.specs.declared.look.ReplicaSizes.{ReplicaSizes}

abbrev counted_by : Option (List ℕ) → TypeSizes → TypeSizes
counted_by None held = record held { tombstones = more held.tombstones }
counted_by (Some body) held = record held { resources = more held.resources }

-- what is counted once one entry more is looked at: a resource that is live, or a deletion
abbrev pub counted_more : StampedWrite → TypeSizes → TypeSizes
counted_more w held = counted_by w.body held

-- what is counted of entries, from what was counted before
abbrev pub counted : List StampedWrite → TypeSizes → TypeSizes
counted [] held = held
counted (w ∷ ws) held = counted ws (counted_more w held)

-- how much is held of a type, by all its entries, after so many changes
abbrev pub held_by_count : ℕ → List StampedWrite → TypeSizes
held_by_count changes ws = counted ws (record { changes = changes; resources = 0; tombstones = 0; bytes = 0 })

-- the same with how many bytes the whole response has
abbrev pub held_of : TypeName → ℕ → ℕ → List StampedWrite → TypeSizes
held_of kind replica changes ws = record (held_by_count changes ws) { bytes = response_bytes kind replica changes first_response ws }

-- what is held of a type
abbrev pub held_at : ReplicaSizes → TypeName → TypeSizes
held_at look Cluster = look.cluster
held_at look Endpoint = look.endpoint
held_at look Listener = look.listener
held_at look Route = look.route
held_at look Secret = look.secret
