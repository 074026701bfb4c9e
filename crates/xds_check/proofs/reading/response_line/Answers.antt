use Rattle.std.proofs.Common.{refl}
use Rattle.xds_check.proofs.RulesLining.{response_there, as_response}
use Rattle.xds_check.proofs.reading.response_line.Goals as goal

pub returns-in-Some : goal.returns-in-Some
returns-in-Some c =
    let found = c.in-Some.ensures.found in
    response_there c.args.rest.now found.0 c.in-Some.behind.now c.in-Some.stream c.response_of.result found.1 found.2 c.response_of.ensures

pub returns-in-None : goal.returns-in-None
returns-in-None c = λ other. (refl, λ l is. let b = (as_response l c.args.rest.now is).2 in c.in-None.ensures.all _ b.0 b.1 b.2 b.3)
