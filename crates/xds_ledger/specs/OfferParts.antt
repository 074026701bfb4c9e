-- The parts from which an offer is made: the answers of the functions that make it. This project's own.
--     stated       of a live write, in a whole response
--     put_writes   an offer, with what f makes of each of some writes
--     told_of      what is owed of a name, if it can be told
use Rattle.std.specs.Prelude.{ℕ, List, [], ◌∷◌, if◌then◌else◌, Option, Some, None}
use Rattle.xds_resource.specs.Writes.{StampedWrite, version_of}
use Rattle.xds_resource.specs.declared.types.TypeName.{TypeName}
use Rattle.xds_resource.specs.Names.{put_some}
use Rattle.xds_interest.specs.Interests.{Selection}
use Rattle.xds_catalogue.specs.Holdings.{Entries}
use Rattle.xds_ledger.specs.declared.entry.Due.{Due}
use Rattle.xds_ledger.specs.declared.entry.Due.TheVariants.{Stated}
use Rattle.xds_ledger.specs.declared.variant.VariantName.{VariantName}
use Rattle.xds_ledger.specs.Owed.{Beliefs, owed_of, is_owed}
use Rattle.xds_ledger.specs.Offers.{Offer}

-- of a live write, in a whole response
abbrev pub stated : StampedWrite → Option Due
stated w = Some (Stated (version_of w))

-- an offer, with what f makes of each of some writes
abbrev pub put_writes : (StampedWrite → Option Due) → Offer → List StampedWrite → Offer
put_writes f o [] = o
put_writes f o (w ∷ ws) = put_writes f (put_some o w.name (f w)) ws

-- what is owed of a name, if it can be told
abbrev pub told_of : VariantName → TypeName → Selection → Entries → Beliefs → List ℕ → Option Due
told_of v t s m b name = if is_owed v t s m b name then owed_of s m b name else None
