-- What every replica holds, whatever happened to it, and that its records can be told from there. This project's own.
--     IsTellable                     a write whose name and body may be a resource's
--     AreTellable                    entries that each are
--     HoldsTellable                  each entry that is held stands under its name and is such a write
--     EveryRecordIsToldFromItsBase   from a replica that holds such writes, whatever its streams are
use Rattle.std.specs.Prelude.{◌≡◌, ℕ, List, true, IfSome, All}
use Rattle.std.specs.FinMap as finmap
use Rattle.xds_resource.specs.declared.types.TypeName.{TypeName}
use Rattle.xds_resource.specs.PerType.{at}
use Rattle.xds_resource.specs.Resources.{is_valid_name}
use Rattle.xds_resource.specs.Writes.{StampedWrite}
use Rattle.xds_catalogue.specs.Holdings.{Entries, IsCatalogue}
use Rattle.xds_core.specs.Stores.{Store}
use Rattle.xds_core.specs.Legal.{Record, IsLegal}
use Rattle.xds_core.specs.Steps.{Core}
use Rattle.xds_trace.specs.Telling.{IsResource, IsTold, IsSoundRecord}

-- the name may be a resource's, and the body, if there is one, is the text of a resource of the type
abbrev pub IsTellable : TypeName → StampedWrite → Type 0
IsTellable t w = (is_valid_name w.name ≡ true) × IfSome w.body (IsResource t)

abbrev pub AreTellable : TypeName → Entries → Type 0
AreTellable t m = (name : List ℕ) → IfSome (finmap.get m name) (IsTellable t)

-- each entry that is held stands under its name and is such a write
abbrev pub HoldsTellable : Store → Type 0
HoldsTellable s = (t : TypeName) → IsCatalogue (at s t).entries × AreTellable t (at s t).entries

-- From a replica that holds such writes, whatever its streams are, every record that is made can be told, where what it took could be read.
abbrev pub EveryRecordIsToldFromItsBase : Type 0
EveryRecordIsToldFromItsBase = (base : Core) (rs : List Record) → HoldsTellable base.store → IsLegal base rs → All IsSoundRecord rs → All IsTold rs
