use Rattle.std.proofs.Common.{◌+◌, drop, get_or, refl, sym, ap, ◌∙◌}
use Rattle.xds_resource.specs.declared.types.TypeName.TheVariants.{Cluster}
use Rattle.xds_resource.specs.Types.{types}
use Rattle.xds_upkeep.specs.Linting.{live_of}
use Rattle.xds_upkeep.proofs.LiveWrites.{kind_more}
use Rattle.xds_upkeep.proofs.sourcing.live_in.Goals as goal

pub loop-kind-preserved : goal.loop-kind-preserved
loop-kind-preserved c =
    let held = c.args.held.now in
    let i = c.loop-kind.kind-index in
    ap (live_of held (drop (i + 1) types)) c.in_ok-add_live.ensures
    ∙ sym (kind_more held types i c.loop-kind.live (get_or types i Cluster) Cluster c.loop-kind-test.true refl)
    ∙ c.loop-kind.invariant
