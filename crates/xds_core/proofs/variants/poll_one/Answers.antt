use Rattle.std.proofs.Common.{◌+◌, ap, subst, ◌∙◌}
use Rattle.xds_ledger.specs.Lists.{Kept, sent_kept}
use Rattle.xds_ledger.specs.Sessions.{Session, IsNext, send}
use Rattle.xds_ledger.proofs.Keeping.{next_fits}
use Rattle.xds_ledger.proofs.Polling.{has_polled, next_was}
use Rattle.xds_core.specs.Talks.{drafted}
use Rattle.xds_core.proofs.variants.poll_one.Goals as goal

pub returns-clause-ok : goal.returns-clause-ok
returns-clause-ok g c =
    let v = g.V.Variant.NAME in
    let t = g.T.ResourceType.TYPE in
    let h = c.args.catalogue.now in
    let before = c.args.session.now.session in
    let respond = g.V.Speaks.response c.args.replica t h before.asked.interest in
    let is = subst (IsNext v t h.entries respond before c.args.nonces.now) c.in-Some.is c.in_ok-offer.ensures.ok in
    let was = next_was v t h.entries respond before c.args.nonces.now c.in-Some.offer c.in-Some.draft c.in-Some.drawn is in
    has_polled v t h.entries (drafted c.args.replica t h before.asked.interest v) before c.args.nonces.now c.draft-draft.result c.send.new.self.session c.in-Some.drawn c.in-Some.offer was.0
    (c.draft-draft.ensures c.args.replica h before.asked.interest c.in-Some.offer (c.args.nonces.now + 1) was.1)
    (ap (λ (k : Kept). k.session) (c.send.ensures ∙ ap (sent_kept c.next.new.self c.in-Some.offer) c.last.ensures) ∙ ap (λ (s : Session). send s c.in-Some.offer c.in-Some.drawn) c.next.ensures.same ∙ ap (send before c.in-Some.offer) was.2) was.2

pub returns-clause-fits : goal.returns-clause-fits
returns-clause-fits g c =
    let respond = g.V.Speaks.response c.args.replica g.T.ResourceType.TYPE c.args.catalogue.now c.args.session.now.session.asked.interest in
    next_fits g.V.Variant.NAME g.T.ResourceType.TYPE c.args.catalogue.now respond c.next.new.self c.args.session.now c.send.new.self c.args.nonces.now c.in-Some.offer c.in-Some.draft c.in-Some.drawn
    (subst (IsNext g.V.Variant.NAME g.T.ResourceType.TYPE c.args.catalogue.now.entries respond c.args.session.now.session c.args.nonces.now) c.in-Some.is c.in_ok-offer.ensures.ok) c.next.ensures.same
    (c.send.ensures ∙ ap (sent_kept c.next.new.self c.in-Some.offer) c.last.ensures) c.next.ensures.fits
