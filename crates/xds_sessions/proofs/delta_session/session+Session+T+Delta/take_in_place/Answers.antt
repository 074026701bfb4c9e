use Rattle.std.proofs.Common.{◌≡◌, map, ap, subst, ◌∙◌}
use Rattle.std.specs.String.{string_bytes}
use Rattle.std.specs.FinMap as finmap
use Rattle.xds_interest.specs.Asked.{delta_asked, wanted_by, widened, without_names, narrowed}
use Rattle.xds_interest.proofs.Adding.{narrowing_is_the_rest, widening_is_undone}
use Rattle.xds_ledger.specs.declared.variant.VariantName.TheVariants.{Delta}
use Rattle.xds_ledger.specs.Lists.{Books, Kept, FitsNext}
use Rattle.xds_ledger.proofs.Keeping.{mention_stays_fit}
use Rattle.xds_sessions.specs.DeltaParts.{account_after}
use Rattle.xds_sessions.specs.DeltaPolls.{mention}
use Rattle.xds_sessions.proofs.InPlace.{taken_in_place}
use Rattle.xds_sessions.proofs.delta_session.session+Session+T+Delta.take_in_place.Goals as goal

pub returns-clause-ok : goal.returns-clause-ok
returns-clause-ok g c =
    let t = g.T.ResourceType.TYPE in
    let m = mention c.args.request.now in
    let subscribed : map string_bytes c.deref.result.now ≡ m.subscribe = ap (map string_bytes) c.deref.ensures.value ∙ ap (λ r. r.resource_names_subscribe) c.request.view_is in
    let unsubscribed : map string_bytes c.deref-2.result.now ≡ m.unsubscribe = ap (map string_bytes) c.deref-2.ensures.value ∙ ap (λ r. r.resource_names_unsubscribe) c.request.view_is in
    let out : map string_bytes c.deref-3.result.now ≡ m.unsubscribe = ap (map string_bytes) c.deref-3.ensures.value ∙ ap (λ r. r.resource_names_unsubscribe) c.request.view_is in
    let here : c.in_ok-wanted.wanted ≡ wanted_by t c.args.self.now.session.asked m =
    c.in_ok-wanted.ensures.ok ∙ (λ i. wanted_by t (c.self.view_is i).session.asked (record { subscribe = subscribed i; unsubscribe = unsubscribed i })) in
    let wide : c.widen.new.self ≡ widened c.args.self.now.session.asked c.in_ok-wanted.wanted.names = c.in_ok-added.ensures.ok ∙ (λ i. widened (c.self.view_is i).session.asked c.in_ok-wanted.wanted.names) in
    let asked : c.narrow.new.self ≡ delta_asked t c.args.self.now.session.asked m = c.narrow.ensures ∙ (λ i. narrowed (wide i) c.in_ok-wanted.wanted (out i)) ∙ (λ i. narrowed (widened c.args.self.now.session.asked (here i).names) (here i) m.unsubscribe) ∙ narrowing_is_the_rest t c.args.self.now.session.asked m in
    let account : c.take_later.new.ledger.account ≡ account_after t c.args.self.now.session.account c.args.request.now c.in_ok-wanted.wanted c.args.touched c.args.touched.names finmap.empty =
    c.in_default.ensures.ok ∙ (λ i. account_after t (c.self.view_is i).session.account c.args.request.now c.in_ok-wanted.wanted c.args.touched c.args.touched.names finmap.empty) in
    taken_in_place t c.args.self.now.session (record { asked = c.narrow.new.self; account = c.take_later.new.ledger.account }) c.args.request.now c.args.touched c.in_ok-wanted.wanted c.requires.later c.requires.touches
    c.requires.some here asked account

pub returns-clause-fits : goal.returns-clause-fits
returns-clause-fits g c =
    let t = g.T.ResourceType.TYPE in
    let m = mention c.args.request.now in
    let subscribed : map string_bytes c.deref.result.now ≡ m.subscribe = ap (map string_bytes) c.deref.ensures.value ∙ ap (λ r. r.resource_names_subscribe) c.request.view_is in
    let unsubscribed : map string_bytes c.deref-2.result.now ≡ m.unsubscribe = ap (map string_bytes) c.deref-2.ensures.value ∙ ap (λ r. r.resource_names_unsubscribe) c.request.view_is in
    let out : map string_bytes c.deref-3.result.now ≡ m.unsubscribe = ap (map string_bytes) c.deref-3.ensures.value ∙ ap (λ r. r.resource_names_unsubscribe) c.request.view_is in
    let here : c.in_ok-wanted.wanted ≡ wanted_by t c.args.self.now.session.asked m =
    c.in_ok-wanted.ensures.ok ∙ (λ i. wanted_by t (c.self.view_is i).session.asked (record { subscribe = subscribed i; unsubscribe = unsubscribed i })) in
    let wide : c.widen.new.self ≡ widened c.args.self.now.session.asked c.in_ok-wanted.wanted.names = c.in_ok-added.ensures.ok ∙ (λ i. widened (c.self.view_is i).session.asked c.in_ok-wanted.wanted.names) in
    let asked : c.narrow.new.self ≡ delta_asked t c.args.self.now.session.asked m = c.narrow.ensures ∙ (λ i. narrowed (wide i) c.in_ok-wanted.wanted (out i)) ∙ (λ i. narrowed (widened c.args.self.now.session.asked (here i).names) (here i) m.unsubscribe) ∙ narrowing_is_the_rest t c.args.self.now.session.asked m in
    let new : Books = c.take_later.new.ledger in
    let next : FitsNext Delta t c.args.touched (record { account = c.args.self.now.session.account; listed = c.args.self.now.listed }) new =
    subst (λ (k : Kept). FitsNext Delta t c.args.touched (record { account = k.session.account; listed = k.listed }) new) c.self.view_is c.in_default.ensures.fits in
    mention_stays_fit Delta t c.args.self.now m c.narrow.new.self c.args.touched new asked c.requires.touches next

pub returns-in-Err-clause-err : goal.returns-in-Err-clause-err
returns-in-Err-clause-err g c =
    (λ i. record {
      session = record {
        asked = (c.take_back.ensures ∙ (λ j. without_names (c.in_ok-added.ensures.ok j) (c.in_ok-added.ensures.added j)) ∙ widening_is_undone c.self.inside.names c.in_ok-wanted.wanted.names) i;
        account = (c.in-Err.ensures.err i).account;
      };
      listed = (c.in-Err.ensures.err i).listed;
    }) ∙ c.self.view_is
