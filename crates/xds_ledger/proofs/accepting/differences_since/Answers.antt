use Rattle.std.proofs.Common.{ap}
use Rattle.std.specs.FinMap as finmap
use Rattle.xds_ledger.specs.Overlay.{Differences}
use Rattle.xds_ledger.proofs.accepting.differences_since.Goals as goal

pub loop-touched-init : goal.loop-touched-init
loop-touched-init c = λ q. ap (λ (m : Differences). finmap.get m q) c.in_ok-next.ensures.ok
