-- What is live of writes that are gone over one after another.
use Rattle.std.proofs.Common.{◌≡◌, ◌<◌, ◌+◌, ℕ, List, length, drop, get_or, sym, ap, ◌∙◌}
use Rattle.std.proofs.lemmas.List.{drop_more}
use Rattle.xds_resource.specs.declared.types.TypeName.{TypeName}
use Rattle.xds_resource.specs.declared.any.AnyWrite.{AnyWrite}
use Rattle.xds_resource.specs.Any.{any_write}
use Rattle.xds_resource.specs.PerType.{at}
use Rattle.xds_resource.specs.Writes.{StampedWrite}
use Rattle.xds_core.specs.Stores.{Batch}
use Rattle.xds_upkeep.specs.Linting.{Live, live_of, with_any, with_writes}

-- the next write is among them, and those behind it follow
pub live_more : (t : TypeName) (ws : List StampedWrite) (i : ℕ) (live : Live) (w : AnyWrite) (d : StampedWrite) → i < length ws → w ≡ any_write t (get_or ws i d)
    → with_writes t live (drop i ws) ≡ with_writes t (with_any live w) (drop (i + 1) ws)
live_more t ws i live w d within is =
    ap (with_writes t live) (drop_more ws i d within) ∙ ap (λ v. with_writes t (with_any live v) (drop (i + 1) ws)) (sym is)

-- the writes of the next type are, and those of the types behind it follow
pub kind_more : (held : Batch) (ts : List TypeName) (i : ℕ) (live : Live) (t d : TypeName) → i < length ts → t ≡ get_or ts i d → live_of held (drop i ts) live ≡ live_of held (drop (i + 1) ts) (with_writes t live (at held t))
kind_more held ts i live t d within is =
    ap (λ us. live_of held us live) (drop_more ts i d within) ∙ ap (λ u. live_of held (drop (i + 1) ts) (with_writes u live (at held u))) (sym is)
