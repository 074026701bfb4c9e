use Rattle.std.proofs.Common.{◌≡◌, map, ap, subst, ◌∙◌}
use Rattle.std.specs.String.{string_bytes}
use Rattle.xds_interest.specs.Asked.{delta_asked}
use Rattle.xds_ledger.specs.declared.variant.VariantName.TheVariants.{Delta}
use Rattle.xds_ledger.specs.Lists.{Books, Kept, FitsNext}
use Rattle.xds_ledger.proofs.Keeping.{mention_stays_fit}
use Rattle.xds_sessions.specs.DeltaPolls.{mention}
use Rattle.xds_sessions.proofs.delta_session.session+Session+T+Delta.take_anew.Goals as goal

pub returns-clause-fits : goal.returns-clause-fits
returns-clause-fits g c =
    let t = g.T.ResourceType.TYPE in
    let m = mention c.args.request.now in
    let subscribed : map string_bytes c.deref.result.now ≡ m.subscribe = ap (map string_bytes) c.deref.ensures.value ∙ ap (λ r. r.resource_names_subscribe) c.request.view_is in
    let unsubscribed : map string_bytes c.deref-2.result.now ≡ m.unsubscribe = ap (map string_bytes) c.deref-2.ensures.value ∙ ap (λ r. r.resource_names_unsubscribe) c.request.view_is in
    let asked : c.in_ok-names.names ≡ delta_asked t c.args.self.now.session.asked m =
    c.in_ok-names.ensures.ok ∙ (λ i. delta_asked t (c.self.view_is i).session.asked (record { subscribe = subscribed i; unsubscribe = unsubscribed i })) in
    let new : Books = c.take_names.new.ledger in
    let next : FitsNext Delta t c.args.touched (record { account = c.args.self.now.session.account; listed = c.args.self.now.listed }) new =
    subst (λ (k : Kept). FitsNext Delta t c.args.touched (record { account = k.session.account; listed = k.listed }) new) c.self.view_is c.in_ok-take_names.ensures.fits in
    mention_stays_fit Delta t c.args.self.now m c.in_ok-names.names c.args.touched new asked c.requires next
