use Rattle.std.proofs.Common.{sym, ◌∙◌}
use Rattle.xds_ledger.specs.Overlay.{told_by, overlaid}
use Rattle.xds_ledger.proofs.Overlaying.{nothing_overlaid}
use Rattle.xds_ledger.proofs.believed.Beliefs.is_empty.Goals as goal

pub returns-in-None : goal.returns-in-None
returns-in-None c = λ empty. sym c.self.view_is ∙ (λ i. overlaid (told_by (c.in-None.is i)) (c.is_empty.ensures empty i)) ∙ nothing_overlaid
