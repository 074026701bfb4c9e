use Rattle.std.proofs.Common.{Some, ap, ◌∙◌}
use Rattle.xds_ledger.specs.Overlay.{Differences, told_by, overlaid}
use Rattle.xds_ledger.proofs.StandsOver.{stands_over}
use Rattle.xds_ledger.proofs.believed.Beliefs.over_offer.Goals as goal

pub returns-clause-ok : goal.returns-clause-ok
returns-clause-ok c =
    c.of_offer.ensures ∙ ap (λ (d : Differences). overlaid (told_by (Some c.args.offer)) d) c.in_ok-differences.ensures.ok ∙ stands_over c.args.self.now c.args.offer c.args.listed.now.names c.requires
