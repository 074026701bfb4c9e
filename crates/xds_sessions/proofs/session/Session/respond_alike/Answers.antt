use Rattle.std.proofs.Common.{◌∙◌}
use Rattle.xds_sessions.proofs.session.Session.respond_alike.Goals as goal

pub returns-clause-offer : goal.returns-clause-offer
returns-clause-offer g c = c.in_ok-offer.ensures.ok ∙ c.requires.offer
