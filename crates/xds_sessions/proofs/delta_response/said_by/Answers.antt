use Rattle.std.proofs.Common.{◌∙◌}
use Rattle.xds_sessions.proofs.DeltaMade.{saying_made}
use Rattle.xds_sessions.proofs.delta_response.said_by.Goals as goal

pub returns-clause-ok : goal.returns-clause-ok
returns-clause-ok g c = c.in_ok-shared.ensures.ok ∙ saying_made c.args.catalogue.now.entries c.args.offer.now c.in_ok-all.all c.in_ok-all.ensures.ok
