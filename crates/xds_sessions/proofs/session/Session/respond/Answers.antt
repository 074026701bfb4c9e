use Rattle.std.proofs.Common.{◌∙◌}
use Rattle.xds_sessions.proofs.Sharing.{first_offered}
use Rattle.xds_sessions.proofs.session.Session.respond.Goals as goal

pub respond_alike-requires-clause-offer : goal.respond_alike-requires-clause-offer
respond_alike-requires-clause-offer g c =
    c.in-Some.ensures.0.offer_is ∙ first_offered g.V.Variant.NAME g.T.ResourceType.TYPE c.args.self.now.session c.args.catalogue.now.entries c.in-Some.ensures.1
