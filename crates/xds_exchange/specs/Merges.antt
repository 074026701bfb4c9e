-- Parts of a batch that are merged one after another. This project's own.
--     merged_by   what is held once the parts came, one after another
--     grown_by    how many entries the parts add or replace, one after another
--     holding     a replica that holds this
--     AllMerged   all parts of some writes were merged into a replica
--     IsStopped   the first parts of some writes were merged into a replica, and then no memory was found
use Rattle.std.specs.Prelude.{◌≡◌, ◌⊎◌, ℕ, ◌+◌, List, [], ◌∷◌, ◌++◌, length, Err}
use Rattle.xds_resource.specs.TypedWrites.{TypedWrite}
use Rattle.xds_resource.specs.declared.refusal.Refusal.{Refusal}
use Rattle.xds_resource.specs.declared.refusal.Refusal.TheVariants.{OutOfMemory}
use Rattle.xds_message.specs.Batches.{by_type}
use Rattle.xds_core.specs.Stores.{Store, grown, merged}
use Rattle.xds_core.specs.Events.{Merge}
use Rattle.xds_core.specs.Steps.{Core, step}
use Rattle.xds_exchange.specs.Parts.{parts_of}

-- what is held once the parts came, one after another
abbrev pub merged_by : Store → List (List TypedWrite) → Store
merged_by s [] = s
merged_by s (p ∷ ps) = merged_by (merged s (by_type p)) ps

-- how many entries the parts add or replace, one after another
abbrev pub grown_by : Store → List (List TypedWrite) → ℕ
grown_by s [] = 0
grown_by s (p ∷ ps) = grown s (by_type p) + grown_by (merged s (by_type p)) ps

-- a replica that holds this
abbrev pub holding : Core → Store → Core
holding c s = record c { store = s }

-- All parts of some writes were merged into a replica: how many they are, how many entries they added or replaced, and what it is then.
pub record AllMerged (before : Core) (ws : List TypedWrite) (parts growth : ℕ) (after : Core) : Type 0 where
  pub counted : parts ≡ length (parts_of ws)
  pub grows : growth ≡ grown_by before.store (parts_of ws)
  pub left : after ≡ holding before (merged_by before.store (parts_of ws))

-- The first parts of some writes were merged into a replica, and then no memory was found, or the merge of the next one was refused.
pub record IsStopped (before : Core) (ws : List TypedWrite) (refusal : Refusal) (after : Core) : Type 0 where
  pub done : List (List TypedWrite)
  pub rest : List (List TypedWrite)
  pub cut : parts_of ws ≡ done ++ rest
  pub left : after ≡ holding before (merged_by before.store done)
  pub why : (refusal ≡ OutOfMemory) ⊎ ((p : List TypedWrite) × (ps : List (List TypedWrite)) × (rest ≡ p ∷ ps) × (step after (Merge (by_type p)) ≡ Err refusal))
