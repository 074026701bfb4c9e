-- What one replica tells another since the last time, by marks. This project's own.
--     unchanged_after   the entries whose latest change isn't above this number
--     Knows             the one replica holds
--     AreTaken          marks that were taken of a replica, or are zero: of each type it made as many changes, or more
--     told              the writes that are told: those above the marks, deletions included
--     IsKept            what every replica's catalogues are
--     HasAll            `after` is what the merge of all that `from` holds makes of `to`
use Rattle.std.specs.Prelude.{◌≡◌, ◌≤◌, ℕ, List, not}
use Rattle.std.specs.FinMap as finmap
use Rattle.xds_resource.specs.declared.types.TypeName.{TypeName}
use Rattle.xds_resource.specs.PerType.{PerType, at}
use Rattle.xds_resource.specs.TypedWrites.{TypedWrite}
use Rattle.xds_message.specs.Batches.{in_order}
use Rattle.xds_catalogue.specs.Holdings.{Entries, Holdings, IsCatalogue, IsNumbered}
use Rattle.xds_catalogue.specs.Joins.{join, IsAbove}
use Rattle.xds_core.specs.Since.{is_above, changed_since}
use Rattle.xds_core.specs.Stores.{Store, merged, all_entries}

-- rule: marks
-- the entries whose latest change isn't above this number
abbrev pub unchanged_after : Holdings → ℕ → Entries
unchanged_after h mark = finmap.retain_keys h.entries (λ name. not (is_above h mark name))

-- rule: marks
-- The one replica holds, of each entry of the other whose latest change isn't above the mark of its type, a write at least as great.
abbrev pub Knows : Store → PerType ℕ → Store → Type 0
Knows from marks to = (t : TypeName) → IsAbove (at to t).entries (unchanged_after (at from t) (at marks t))

-- rule: marks
-- Marks that were taken of a replica, or are zero: of each type it made as many changes, or more.
abbrev pub AreTaken : Store → PerType ℕ → Type 0
AreTaken from marks = (t : TypeName) → at marks t ≤ (at from t).changes

-- rule: tombstones, rule: marks
-- the writes that are told: those above the marks, deletions included
abbrev pub told : Store → PerType ℕ → List TypedWrite
told from marks = in_order (changed_since from marks)

-- what every replica's catalogues are
abbrev pub IsKept : Store → Type 0
IsKept s = (t : TypeName) → IsCatalogue (at s t).entries × IsNumbered (at s t)

-- rule: marks
-- `after` is what the merge of all that `from` holds makes of `to`: the join of both, of each type
pub record HasAll (from to after : Store) : Type 0 where
  pub all : after ≡ merged to (all_entries from)
  pub joined : (t : TypeName) → (at after t).entries ≡ join (at to t).entries (at from t).entries
