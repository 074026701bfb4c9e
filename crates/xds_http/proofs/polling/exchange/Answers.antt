use Rattle.std.proofs.Common.{rules}
use Rattle.xds_http.proofs.polling.exchange.Goals as goal

pub run_until-requires : goal.run_until-requires
run_until-requires g c = (search rules, search rules)
