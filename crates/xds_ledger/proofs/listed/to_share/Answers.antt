use Rattle.std.proofs.Common.{sym, ◌∙◌}
use Rattle.xds_ledger.proofs.SharedNames.{none_there}
use Rattle.xds_ledger.proofs.listed.to_share.Goals as goal

pub returns-then-not-has_some-clause-ok : goal.returns-then-not-has_some-clause-ok
returns-then-not-has_some-clause-ok c = none_there c.args.names (sym c.has_some.ensures ∙ c.if-not-has_some.true)
