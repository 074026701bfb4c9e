-- What a catalogue's own writes are: each has a counter above all that the catalogue holds. This project's own.
--     greatest_counter_of   the greatest counter among writes, or 0 where there are none
--     greatest_counter      the greatest counter that a catalogue holds, deletions included, or 0 where it holds none
--     next_counter          the counter of the next write
--     spent_conditions      why no write can be made now, in order
--     has_live              whether there is a live resource of the name
--     putting               the counter of the write that puts a resource with these groups, and what is held then
--     deleting              the counter of the write that deletes a live resource, and what is held then
use Rattle.std.specs.Prelude.{ℕ, ◌+◌, ◌==◌, max, List, [], ◌∷◌, map, Bool, not, Result}
use Rattle.std.specs.List.{fold}
use Rattle.std.specs.Option.{option_map_or}
use Rattle.std.specs.Prelude.{false}
use Rattle.std.specs.FinMap as finmap
use Rattle.xds_resource.specs.declared.refusal.Refusal.{Refusal}
use Rattle.xds_resource.specs.declared.refusal.Refusal.TheVariants.{NotFound, CounterSpent}
use Rattle.xds_resource.specs.Refusals.{unless_refused}
use Rattle.xds_resource.specs.Stamps.{max_counter}
use Rattle.xds_resource.specs.Resources.{NamedBody, written, deleted}
use Rattle.xds_resource.specs.Writes.{StampedWrite}
use Rattle.xds_catalogue.specs.Holdings.{Entries, Holdings}
use Rattle.xds_catalogue.specs.Content.{is_live}
use Rattle.xds_catalogue.specs.Joins.{joined}

-- rule: tombstones
-- the greatest counter among writes, or 0 where there are none
abbrev pub greatest_counter_of : List StampedWrite → ℕ
greatest_counter_of ws = fold max 0 (map (λ w. w.counter) ws)

-- rule: tombstones
-- the greatest counter that a catalogue holds, deletions included, or 0 where it holds none
abbrev pub greatest_counter : Entries → ℕ
greatest_counter m = greatest_counter_of (finmap.values m)

-- the counter of the next write
abbrev pub next_counter : Holdings → ℕ
next_counter h = greatest_counter h.entries + 1

-- why no write can be made now, in order
abbrev pub spent_conditions : Holdings → List (Bool × Refusal)
spent_conditions h = (greatest_counter h.entries == max_counter, CounterSpent) ∷ (h.changes == max_counter, CounterSpent) ∷ []

-- whether there is a live resource of the name
abbrev pub has_live : Entries → List ℕ → Bool
has_live m name = option_map_or is_live (finmap.get m name) false

-- the counter of the write that puts a resource with these groups, and what is held then
abbrev pub putting : Holdings → NamedBody → List (List ℕ) → ℕ → Result (ℕ × Holdings) Refusal
putting h r groups writer = unless_refused (spent_conditions h) (next_counter h, joined h (written (next_counter h) writer r groups ∷ []))

-- rule: tombstones
-- the counter of the write that deletes a live resource, and what is held then
abbrev pub deleting : Holdings → List ℕ → ℕ → Result (ℕ × Holdings) Refusal
deleting h name writer =
    unless_refused ((not (has_live h.entries name), NotFound) ∷ spent_conditions h) (next_counter h, joined h (deleted (next_counter h) writer name ∷ []))
