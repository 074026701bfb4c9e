use Rattle.std.proofs.Common.{refl}
use Rattle.xds_check.proofs.RulesLining.{request_on, never_cut}
use Rattle.xds_check.specs.Texts.{request_kind}
use Rattle.xds_check.proofs.reading.request_of.Goals as goal

pub returns-in-Some : goal.returns-in-Some
returns-in-Some c = request_on c.args.stream c.args.behind.now c.in-Some.kind.now c.in-Some.json.now c.request_with.result c.in-Some.ensures c.request_with.ensures

pub returns-in-None : goal.returns-in-None
returns-in-None c = λ other. (refl, λ l is. never_cut c.args.behind.now (request_kind is.0) is.2.0 c.in-None.ensures is.2.1)
