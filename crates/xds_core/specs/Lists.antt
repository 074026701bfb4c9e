-- Streams with the lists of what they may be owed: the streams alone, and when every list suffices. The lists decide nothing, so
-- a replica is seen without them. This project's own.
--     streams_of   the streams without their lists
--     AllFit       each list of each stream suffices, by what the replica holds
use Rattle.std.specs.Prelude.{◌≡◌, ℕ, Some}
use Rattle.std.specs.Ordering.{nat_cmp}
use Rattle.std.specs.FinMap as finmap
use Rattle.xds_resource.specs.declared.types.TypeName.{TypeName}
use Rattle.xds_resource.specs.PerType.{at}
use Rattle.xds_catalogue.specs.Holdings.{IsCatalogue}
use Rattle.xds_catalogue.specs.Tables.{by_number}
use Rattle.xds_events.specs.Stores.{Store}
use Rattle.xds_events.specs.Streams.{Stream}
use Rattle.xds_core.specs.Talks.{Followed, StreamFits}

-- the streams without their lists
abbrev pub streams_of : finmap.FinMap nat_cmp Followed → finmap.FinMap nat_cmp Stream
streams_of m = by_number (λ f. f.stream) (finmap.entries m)

-- Each list of each stream suffices, by what the replica holds, and each write that it holds stands under its own name.
pub record AllFit (store : Store) (streams : finmap.FinMap nat_cmp Followed) : Type 0 where
  pub named : (t : TypeName) → IsCatalogue (at store t).entries
  pub fits : (n : ℕ) (f : Followed) → finmap.get streams n ≡ Some f → StreamFits store f
