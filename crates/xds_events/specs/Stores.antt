-- What a replica holds of all types, and its own writes and batches of writes. This project's own.
--     Store         a catalogue of each type
--     Batch         a batch: writes of each type
--     merged        what is held of each type once a batch came
--     is_spent      whether a batch makes more changes of some type than can be counted
--     grown         how many entries a batch adds or replaces, over all types
--     merging       how many entries a batch adds or replaces, and what is held then
--     joining_at    what is held once a write of the type came
--     if_done       what f makes of an answer, unless that is a refusal
--     putting_at    the counter of the write that puts a resource of the type with these groups, and what is held then
--     deleting_at   the counter of the write that deletes a live resource of the type, and what is held then
--     all_entries   all that is held, deletions included, of each type in ascending order of names
use Rattle.std.specs.Prelude.{ℕ, List, [], ◌∷◌, Bool, Result, Ok, Err, nat_lt}
use Rattle.std.specs.List.{list_any, sum_by}
use Rattle.std.specs.FinMap as finmap
use Rattle.xds_resource.specs.declared.types.TypeName.{TypeName}
use Rattle.xds_resource.specs.declared.refusal.Refusal.{Refusal}
use Rattle.xds_resource.specs.declared.refusal.Refusal.TheVariants.{CounterSpent}
use Rattle.xds_resource.specs.PerType.{PerType, at, with_at, per_type}
use Rattle.xds_resource.specs.Refusals.{unless_refused}
use Rattle.xds_resource.specs.Resources.{NamedBody}
use Rattle.xds_resource.specs.Stamps.{max_counter}
use Rattle.xds_resource.specs.Types.{types}
use Rattle.xds_resource.specs.Writes.{StampedWrite}
use Rattle.xds_catalogue.specs.Holdings.{Holdings}
use Rattle.xds_catalogue.specs.Joins.{joined, changes_by}
use Rattle.xds_catalogue.specs.Local.{putting, deleting}

-- a catalogue of each type
abbrev pub Store : Type 0
Store = PerType Holdings

-- a batch: writes of each type
abbrev pub Batch : Type 0
Batch = PerType (List StampedWrite)

-- rule: greatest-write
-- what is held of each type once a batch came
abbrev pub merged : Store → Batch → Store
merged s b = per_type (λ t. joined (at s t) (at b t))

-- whether a batch makes more changes of some type than can be counted
abbrev pub is_spent : Store → Batch → Bool
is_spent s b = list_any (λ t. nat_lt max_counter (joined (at s t) (at b t)).changes) types

-- how many entries a batch adds or replaces, over all types
abbrev pub grown : Store → Batch → ℕ
grown s b = sum_by (λ t. changes_by (at s t) (at b t)) types

-- How many entries a batch adds or replaces, and what is held then. It is refused whole where the changes of some type can't be counted.
abbrev pub merging : Store → Batch → Result (ℕ × Store) Refusal
merging s b = unless_refused ((is_spent s b, CounterSpent) ∷ []) (grown s b, merged s b)

-- What is held once a write of the type came. It is refused where the changes of the type can't be counted.
abbrev pub joining_at : Store → TypeName → StampedWrite → Result Store Refusal
joining_at s t w = unless_refused ((nat_lt max_counter (joined (at s t) (w ∷ [])).changes, CounterSpent) ∷ []) (with_at s t (joined (at s t) (w ∷ [])))

-- what f makes of an answer, unless that is a refusal
abbrev pub if_done : {X Y : Type 0} → (X → Y) → Result X Refusal → Result Y Refusal
if_done f (Ok x) = Ok (f x)
if_done f (Err e) = Err e

-- the counter of the write that puts a resource of the type with these groups, and what is held then
abbrev pub putting_at : Store → TypeName → NamedBody → List (List ℕ) → ℕ → Result (ℕ × Store) Refusal
putting_at s t r groups writer = if_done (λ p. (p.0, with_at s t p.1)) (putting (at s t) r groups writer)

-- rule: tombstones
-- the counter of the write that deletes a live resource of the type, and what is held then
abbrev pub deleting_at : Store → TypeName → List ℕ → ℕ → Result (ℕ × Store) Refusal
deleting_at s t name writer = if_done (λ p. (p.0, with_at s t p.1)) (deleting (at s t) name writer)

-- rule: tombstones
-- all that is held, deletions included, of each type in ascending order of names
abbrev pub all_entries : Store → Batch
all_entries s = per_type (λ t. finmap.values (at s t).entries)
