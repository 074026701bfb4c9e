-- Catalogues of all types to which a batch was joined, for as long as it can be taken back. This project's own.
--     befores   what was held before
--     afters    what is held then
--     growth    by how much the changes grow, over all types
use Rattle.std.specs.Prelude.{ℕ, ◌-◌}
use Rattle.std.specs.List.{sum_by}
use Rattle.xds_resource.specs.PerType.{PerType, at, per_type}
use Rattle.xds_resource.specs.Types.{types}
use Rattle.xds_catalogue.specs.Pending.{Pending}
use Rattle.xds_events.specs.Stores.{Store}

-- what was held before
abbrev pub befores : PerType Pending → Store
befores p = per_type (λ t. (at p t).before)

-- what is held then
abbrev pub afters : PerType Pending → Store
afters p = per_type (λ t. (at p t).after)

-- by how much the changes grow, over all types
abbrev pub growth : PerType Pending → ℕ
growth p = sum_by (λ t. (at p t).after.changes - (at p t).before.changes) types
