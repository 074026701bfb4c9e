use Rattle.std.proofs.Common.{refl}
use Rattle.xds_check.proofs.RulesLining.{response_on, never_cut}
use Rattle.xds_check.specs.Texts.{response_kind}
use Rattle.xds_check.proofs.reading.response_of.Goals as goal

pub returns-in-Some : goal.returns-in-Some
returns-in-Some c = response_on c.args.stream c.args.behind.now c.in-Some.kind.now c.in-Some.json.now c.response_with.result c.in-Some.ensures c.response_with.ensures

pub returns-in-None : goal.returns-in-None
returns-in-None c = λ other. (refl, λ l is. never_cut c.args.behind.now (response_kind is.0) is.2.0 c.in-None.ensures is.2.1)
