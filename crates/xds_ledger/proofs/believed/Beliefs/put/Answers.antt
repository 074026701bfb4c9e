use Rattle.std.proofs.Common.{ap, sym, ◌∙◌}
use Rattle.std.proofs.lemmas.Result.{on_ok_weaker}
use Rattle.std.specs.FinMap as finmap
use Rattle.xds_resource.specs.Names.{put_some}
use Rattle.xds_ledger.specs.Overlay.{overlaid, told_by}
use Rattle.xds_ledger.proofs.Overlaying.{overlaid_inserted}
use Rattle.xds_ledger.proofs.believed.Beliefs.put.Goals as goal

pub returns-in-Some-clause-ok : goal.returns-in-Some-clause-ok
returns-in-Some-clause-ok c =
    on_ok_weaker c.put.result
    (λ is. ap (overlaid (told_by c.self.inside.base)) is ∙ overlaid_inserted (told_by c.self.inside.base) c.self.inside.changed c.args.name.now c.in-Some.entry
    ∙ ap (λ m. finmap.insert m c.args.name.now c.in-Some.entry) c.self.view_is ∙ ap (put_some c.args.self.now c.args.name.now) (sym c.in-Some.is))
    c.put.ensures.ok
