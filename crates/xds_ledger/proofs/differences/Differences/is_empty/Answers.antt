use Rattle.std.proofs.Common.{sym, ap, ◌∙◌}
use Rattle.xds_resource.specs.Names.{pairs}
use Rattle.xds_ledger.proofs.Overlaying.{no_entries}
use Rattle.xds_ledger.proofs.differences.Differences.is_empty.Goals as goal

pub returns-in-None : goal.returns-in-None
returns-in-None c = λ _. no_entries c.args.self.now (sym c.iter.ensures ∙ ap pairs c.in-None.ensures.steps.0)
