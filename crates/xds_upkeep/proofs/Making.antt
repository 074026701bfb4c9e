-- What a folder says, made over what is held at the start.
use Rattle.std.proofs.Common.{◌≡◌, ℕ, List, Ok, sym, ap, ◌∙◌}
use Rattle.std.specs.FinMap as finmap
use Rattle.xds_resource.specs.PerType.{each}
use Rattle.xds_resource.specs.Writes.{text_cmp}
use Rattle.xds_catalogue.specs.Holdings.{nothing_held}
use Rattle.xds_core.specs.Stores.{Batch, Store, all_entries, if_done, merging}
use Rattle.xds_sources.specs.Differences.{Edit, difference}
use Rattle.xds_sources.specs.declared.reading.FileResource.{FileResource}
use Rattle.xds_changes.specs.Loads.{then_loaded}
use Rattle.xds_upkeep.specs.Linting.{Live, live_in}
use Rattle.xds_upkeep.specs.Sourcing.{all_made, made_over}

-- what is held of the batch, and then of the changes
pub made_so : (writer : ℕ) (world : Batch) (wanted : finmap.FinMap text_cmp FileResource) (live : Live) (es : List Edit) (n : ℕ) (held after : Store) (b : Batch) → merging (each nothing_held) world ≡ Ok (n, held)
    → live ≡ live_in world → es ≡ difference live wanted → all_made writer held es ≡ Ok after → b ≡ all_entries after → made_over writer world wanted ≡ Ok b
made_so writer world wanted live es n held after b merged is changes made entries =
    ap (λ r. if_done all_entries (then_loaded (λ s. all_made writer s (difference (live_in world) wanted)) (if_done (λ p. p.1) r))) merged
    ∙ ap (λ l. if_done all_entries (all_made writer held (difference l wanted))) (sym is)
    ∙ ap (λ v. if_done all_entries (all_made writer held v)) (sym changes)
    ∙ ap (if_done all_entries) made
    ∙ ap Ok (sym entries)
