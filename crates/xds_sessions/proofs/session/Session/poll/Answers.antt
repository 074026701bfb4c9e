use Rattle.std.proofs.Common.{ap, subst, ◌∙◌}
use Rattle.xds_ledger.specs.Lists.{sent_kept}
use Rattle.xds_ledger.specs.Sessions.{IsNext}
use Rattle.xds_ledger.proofs.Keeping.{next_fits}
use Rattle.xds_sessions.proofs.session.Session.poll.Goals as goal

pub returns-clause-fits : goal.returns-clause-fits
returns-clause-fits g c =
    let respond = g.V.Speaks.response c.args.replica g.T.ResourceType.TYPE c.args.catalogue.now c.args.self.now.session.asked.interest in
    next_fits g.V.Variant.NAME g.T.ResourceType.TYPE c.args.catalogue.now respond c.next.new.self c.args.self.now c.send.new.self c.args.nonces.now c.in-Some.offer c.in-Some.draft c.in-Some.drawn
    (subst (IsNext g.V.Variant.NAME g.T.ResourceType.TYPE c.args.catalogue.now.entries respond c.args.self.now.session c.args.nonces.now) c.in-Some.is c.in_ok-offer.ensures.ok) c.next.ensures.same
    (c.send.ensures ∙ ap (sent_kept c.next.new.self c.in-Some.offer) c.last.ensures) c.next.ensures.fits
