-- What a folder says, made over what is held at the start. This project's own.
--     edit_event   the change that a folder makes, as it happens at a replica: a put is for all clients
--     all_made     what is held once changes of a folder are made by the replica of this number, or why one is refused
--     begun        what is held of a batch alone, or why it isn't
--     made_over    all that is held once what a folder says is made over a batch, or why it isn't
use Rattle.std.specs.Prelude.{ℕ, List, [], ◌∷◌, Result, Ok}
use Rattle.std.specs.FinMap as finmap
use Rattle.xds_resource.specs.declared.refusal.Refusal.{Refusal}
use Rattle.xds_resource.specs.PerType.{each}
use Rattle.xds_resource.specs.Writes.{text_cmp}
use Rattle.xds_catalogue.specs.Holdings.{nothing_held}
use Rattle.xds_core.specs.Events.{Event, Put, Delete}
use Rattle.xds_core.specs.Stores.{Batch, Store, all_entries, if_done, merging}
use Rattle.xds_sources.specs.Differences.{Edit, puts, deletes, difference}
use Rattle.xds_sources.specs.declared.reading.FileResource.{FileResource}
use Rattle.xds_changes.specs.Loads.{made_by, then_loaded}
use Rattle.xds_upkeep.specs.Linting.{live_in}

-- the change that a folder makes, as it happens at a replica: a put is for all clients
abbrev pub edit_event : Edit → Event
edit_event (puts t r) = Put t r []
edit_event (deletes t name) = Delete t name

-- rule: loaded-first
-- what is held once changes of a folder are made by the replica of this number, or why the first that is refused is
abbrev pub all_made : ℕ → Store → List Edit → Result Store Refusal
all_made writer s [] = Ok s
all_made writer s (e ∷ es) = then_loaded (λ t. all_made writer t es) (made_by writer s (edit_event e))

-- what is held of a batch alone, or why it isn't
abbrev pub begun : Batch → Result Store Refusal
begun world = if_done (λ p. p.1) (merging (each nothing_held) world)

-- rule: loaded-first
-- All that is held once what a folder says is made over a batch, or why it isn't. The changes are those by which exactly what the folder
-- says is live.
abbrev pub made_over : ℕ → Batch → finmap.FinMap text_cmp FileResource → Result Batch Refusal
made_over writer world wanted = if_done all_entries (then_loaded (λ s. all_made writer s (difference (live_in world) wanted)) (begun world))
