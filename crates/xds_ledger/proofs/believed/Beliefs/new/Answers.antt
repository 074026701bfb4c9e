use Rattle.std.proofs.Common.{ap, ◌∙◌}
use Rattle.std.specs.FinMap as finmap
use Rattle.xds_ledger.specs.Overlay.{overlaid}
use Rattle.xds_ledger.proofs.Overlaying.{nothing_overlaid}
use Rattle.xds_ledger.proofs.believed.Beliefs.new.Goals as goal

pub returns : goal.returns
returns c = ap (overlaid finmap.empty) c.new.ensures ∙ nothing_overlaid
