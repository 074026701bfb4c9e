-- What a catalogue holds after writes are joined to it, whether one by one or a whole catalogue's. This project's own.
--     join         the greater write of each name that either has
--     IsAbove      m has a write at least as great wherever n has one
--     changes_by   how many of the writes add or replace an entry
--     latest_by    each entry's latest change, once these writes came
--     joined       what is held once these writes came
--     joining      how many entries the writes add or replace, and what is held then
use Rattle.std.specs.Prelude.{◌≢◌, ℕ, ◌+◌, List, [], ◌∷◌, ◌++◌, nat_lt, Result, IfSome, IsSomeAnd}
use Rattle.std.specs.FinMap as finmap
use Rattle.std.specs.declared.cmp.Ordering.TheVariants.{Greater}
use Rattle.xds_resource.specs.declared.refusal.Refusal.{Refusal}
use Rattle.xds_resource.specs.declared.refusal.Refusal.TheVariants.{CounterSpent}
use Rattle.xds_resource.specs.Refusals.{unless_refused}
use Rattle.xds_resource.specs.Stamps.{max_counter}
use Rattle.xds_resource.specs.Writes.{StampedWrite, write_cmp}
use Rattle.xds_catalogue.specs.Holdings.{Entries, Latest, Holdings, catalogue_of}
use Rattle.xds_catalogue.specs.Changes.{changes_after, change_list}

-- rule: greatest-write
-- the greater write of each name that either has
abbrev pub join : Entries → Entries → Entries
join m n = catalogue_of (finmap.values m ++ finmap.values n)

-- m has a write at least as great wherever n has one
abbrev pub IsAbove : Entries → Entries → Type 0
IsAbove m n = (name : List ℕ) → IfSome (finmap.get n name) (λ v. IsSomeAnd (finmap.get m name) (λ w. write_cmp v w ≢ Greater))

-- how many of the writes add or replace an entry
abbrev pub changes_by : Holdings → List StampedWrite → ℕ
changes_by h ws = changes_after (finmap.values h.entries) ws

-- rule: marks
-- each entry's latest change, once these writes came: of the changes that they make the last one of the entry, or else the one from before
abbrev pub latest_by : Holdings → List StampedWrite → Latest
latest_by h ws = finmap.from_entries (change_list (finmap.values h.entries) h.changes ws ++ finmap.entries h.latest)

-- rule: greatest-write
-- what is held once these writes came
abbrev pub joined : Holdings → List StampedWrite → Holdings
joined h ws = record { entries = catalogue_of (finmap.values h.entries ++ ws); changes = h.changes + changes_by h ws; latest = latest_by h ws }

-- rule: greatest-write
-- How many entries the writes add or replace, and what is held then. All are refused where the count of changes would pass its greatest value.
abbrev pub joining : Holdings → List StampedWrite → Result (ℕ × Holdings) Refusal
joining h ws = unless_refused ((nat_lt max_counter (joined h ws).changes, CounterSpent) ∷ []) (changes_by h ws, joined h ws)
