use Rattle.std.proofs.Common.{Some, ◌∙◌}
use Rattle.xds_ledger.specs.Overlay.{overlaid, told_by}
use Rattle.xds_ledger.proofs.AsOffered.{accepted_is}
use Rattle.xds_ledger.proofs.accepting.accepted_as_offered.Goals as goal

pub returns-clause-ok : goal.returns-clause-ok
returns-clause-ok c =
    c.of_offer.ensures ∙ (λ i. overlaid (told_by (Some (c.in_ok-offer.ensures.ok i))) c.in_ok-changed.changed)
    ∙ (λ i. overlaid (told_by (Some (c.sent.view_is i).offer)) c.in_ok-changed.changed)
    ∙ accepted_is c.args.whole c.args.sent.now c.args.beliefs.now c.in_ok-changed.changed c.requires c.in_ok-changed.ensures.ok
