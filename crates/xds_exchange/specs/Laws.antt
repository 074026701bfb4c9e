-- What holds of merges by parts and of rounds. This project's own.
--     PartsAreOneMerge       the parts of some writes, merged one after another, come to one merge of them all
--     ChangesAreAll          where what isn't above the marks is known, what is above them comes to the same as all
--     AllIsKnown             once all is merged, all is known, whatever the marks are
--     ZerosKnowNothing       with marks of zero nothing needs to be known
--     MergesKeepKnowing      what is known stays known, whatever is merged there
--     EventsKeepCatalogues   whatever happens at a replica, its catalogues are kept so
--     TellersMayWrite        what is known stays known
--     HearersMayWrite        it stays known, too, whatever happens at the one that is told
--     MarksAreTaken          the counts of changes are marks that were taken, and so are zeros
use Rattle.std.specs.Prelude.{◌≡◌, ℕ, List}
use Rattle.xds_resource.specs.PerType.{PerType, each}
use Rattle.xds_resource.specs.TypedWrites.{TypedWrite}
use Rattle.xds_resource.specs.Writes.{StampedWrite}
use Rattle.xds_message.specs.Batches.{by_type}
use Rattle.xds_core.specs.Since.{changed_since, marks_of}
use Rattle.xds_core.specs.Stores.{Store, grown, merged, all_entries}
use Rattle.xds_core.specs.Events.{Event}
use Rattle.xds_core.specs.Legal.{after}
use Rattle.xds_core.specs.Steps.{Core}
use Rattle.xds_exchange.specs.Parts.{parts_of}
use Rattle.xds_exchange.specs.Merges.{merged_by, grown_by}
use Rattle.xds_exchange.specs.Rounds.{Knows, IsKept, AreTaken}

-- rule: greatest-write
-- The parts of some writes, merged one after another, come to one merge of them all.
abbrev pub PartsAreOneMerge : Type 0
PartsAreOneMerge = (s : Store) (ws : List TypedWrite) → IsKept s → (merged_by s (parts_of ws) ≡ merged s (by_type ws)) × (grown_by s (parts_of ws) ≡ grown s (by_type ws))

-- rule: marks
-- Where what isn't above the marks is known, what is above them comes to the same as all.
abbrev pub ChangesAreAll : Type 0
ChangesAreAll = (from to : Store) (marks : PerType ℕ) → IsKept from → IsKept to → Knows from marks to → (merged to (changed_since from marks) ≡ merged to (all_entries from)) × (grown to (changed_since from marks) ≡ grown to (all_entries from))

-- rule: marks
-- Once all is merged, all is known, whatever the marks are.
abbrev pub AllIsKnown : Type 0
AllIsKnown = (from to : Store) (marks : PerType ℕ) → IsKept from → IsKept to → Knows from marks (merged to (all_entries from))

-- rule: marks
-- With marks of zero nothing needs to be known.
abbrev pub ZerosKnowNothing : Type 0
ZerosKnowNothing = (from to : Store) → IsKept from → Knows from (each 0) to

-- rule: marks
-- What is known stays known, whatever is merged there.
abbrev pub MergesKeepKnowing : Type 0
MergesKeepKnowing = (from to : Store) (marks : PerType ℕ) (writes : PerType (List StampedWrite)) → IsKept to → Knows from marks to → Knows from marks (merged to writes)

-- Whatever happens at a replica, its catalogues are kept so.
abbrev pub EventsKeepCatalogues : Type 0
EventsKeepCatalogues = (c : Core) (e : Event) → IsKept c.store → IsKept (after c e).store

-- rule: marks
-- What is known stays known, whatever happens at the one that tells since its marks were taken: an own write, a merge, or anything else.
abbrev pub TellersMayWrite : Type 0
TellersMayWrite = (c : Core) (e : Event) (marks : PerType ℕ) (to : Store) → IsKept c.store → AreTaken c.store marks → Knows c.store marks to → Knows (after c e).store marks to × AreTaken (after c e).store marks

-- rule: marks
-- It stays known, too, whatever happens at the one that is told.
abbrev pub HearersMayWrite : Type 0
HearersMayWrite = (c : Core) (e : Event) (marks : PerType ℕ) (from : Store) → IsKept c.store → Knows from marks c.store → Knows from marks (after c e).store

-- rule: marks
-- The counts of changes are marks that were taken, and so are zeros.
abbrev pub MarksAreTaken : Type 0
MarksAreTaken = (s : Store) → AreTaken s (marks_of s) × AreTaken s (each 0)
