use Rattle.std.proofs.Common.{ap}
use Rattle.xds_ledger.specs.Listed.{Listed}
use Rattle.xds_ledger.proofs.ListedNames.{none_listed}
use Rattle.xds_ledger.proofs.listing.list_since.Goals as goal

pub loop-touched-init : goal.loop-touched-init
loop-touched-init c = (ap (λ (l : Listed). l.mark) c.from_mark-all.ensures, λ q. none_listed c.args.mark c.from_mark-all.result q c.from_mark-all.ensures)
