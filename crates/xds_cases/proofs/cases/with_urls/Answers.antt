use Rattle.std.proofs.Common.{rules}
use Rattle.xds_cases.specs.Cases.{with_urls}
use Rattle.xds_cases.proofs.cases.with_urls.Goals as goal

pub returns : goal.returns
unfolding with_urls
returns c = search rules
