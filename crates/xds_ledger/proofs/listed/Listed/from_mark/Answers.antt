use Rattle.std.proofs.Common.{None, refl}
use Rattle.std.specs.FinMap as finmap
use Rattle.xds_ledger.proofs.SharedNames.{over_none}
use Rattle.xds_ledger.proofs.listed.Listed.from_mark.Goals as goal

pub returns : goal.returns
returns c = λ i. record { mark = c.args.mark; names = over_none None c.new.result finmap.empty refl c.new.ensures i; sent_mark = None }
