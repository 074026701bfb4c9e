-- The parts from which what is wanted and held is made, entry by entry: the answers of the functions that make it. This
-- project's own.
--     unless_dropped   of a text that was wanted, by a change that doesn't subscribe it
--     as_before        of a text that is wanted in any case
--     left             of a name that was held, beside a response that is the whole or not, and removes these names
--     added            of a name that a response states
--     version_told     of a name that is held, the version
use Rattle.std.specs.Prelude.{ℕ, List, Bool, ◌&&◌, ◌||◌, not, if◌then◌else◌, Option, Some, None}
use Rattle.std.specs.FinMap as finmap
use Rattle.xds_resource.specs.declared.types.TypeName.{TypeName}
use Rattle.xds_cache.specs.Shelves.{Wants, Holding, is_wanted}

-- of a text that was wanted, by a change that doesn't subscribe it
abbrev pub unless_dropped : Wants → List ℕ → Unit {0} → Option (Unit {0})
unless_dropped unsubscribe name u = if finmap.contains_key unsubscribe name then None else Some u

-- of a text that is wanted in any case
abbrev pub as_before : {X : Type 0} → List ℕ → X → Option X
as_before name x = Some x

-- of a name that was held, beside a response that is the whole or not, and removes these names
abbrev pub left : TypeName → Wants → Bool → Wants → List ℕ → Holding → Option Holding
left t w whole removed name h = if is_wanted t w name && not (whole || finmap.contains_key removed name) then Some h else None

-- of a name that a response states
abbrev pub added : TypeName → Wants → List ℕ → Holding → Option Holding
added t w name h = if is_wanted t w name then Some h else None

-- of a name that is held, the version
abbrev pub version_told : List ℕ → Holding → Option (List ℕ)
version_told name h = Some h.version
