use Rattle.std.proofs.Common.{◌≡◌, true, List, ℕ, map, string_bytes, sym, ap, subst, ◌∙◌, not}
use Rattle.std.specs.FinSet as set
use Rattle.xds_interest.specs.Asked.{sotw_asked}
use Rattle.xds_interest.specs.Touches.{sotw_touch}
use Rattle.xds_interest.proofs.Again.{unchanged_touches_nothing}
use Rattle.xds_ledger.specs.declared.variant.VariantName.TheVariants.{StateOfTheWorld}
use Rattle.xds_ledger.specs.Ledgers.{Names, settled, taken}
use Rattle.xds_ledger.specs.Lists.{Kept, FitsNext, StaysFit}
use Rattle.xds_ledger.specs.Sessions.{Session, is_stale}
use Rattle.xds_ledger.proofs.Keeping.{list_stays_fit}
use Rattle.xds_sessions.proofs.SotwMade.{list_taken_by}
use Rattle.xds_sessions.proofs.sotw_session.session+Session+T+StateOfTheWorld.take_again.Goals as goal

pub returns-clause-ok : goal.returns-clause-ok
returns-clause-ok g c =
    let t = g.T.ResourceType.TYPE in
    let texts : List (List ℕ) = map string_bytes c.args.list.now in
    let s : Session = c.args.self.now.session in
    let asked = c.self.inside.names in
    let before : Session = record { asked = asked; account = c.self.inside.ledger.account } in
    let same : before ≡ s = ap (λ (k : Kept). k.session) c.self.view_is in
    let held : not (is_stale s c.args.nonce.now) ≡ true = ap not c.requires.fresh in
    let kept : asked ≡ sotw_asked t before.asked texts =
    ap (λ (x : Session). x.asked) same ∙ sym c.requires.again ∙ ap (λ (x : Session). sotw_asked t x.asked texts) (sym same) in
    let touches : c.nothing-touched.result ≡ sotw_touch asked.interest c.interest-interest.result.now =
    c.nothing-touched.ensures ∙ sym (unchanged_touches_nothing asked.interest) ∙ ap (sotw_touch asked.interest) (sym c.interest-interest.ensures) in
    list_taken_by t s before c.args.nonce.now c.args.rejects texts asked c.take.new.self.account c.interest-interest.result.now c.nothing-touched.result
    (set.from_list (map string_bytes c.names.result)) same held kept c.interest-interest.ensures touches c.names.ensures.names
    (c.in_ok-take.ensures.ok ∙ ap (λ (n : Names). taken (settled StateOfTheWorld t before.account c.args.nonce.now c.args.rejects) n) c.new-said.ensures)

pub returns-clause-fits : goal.returns-clause-fits
returns-clause-fits g c =
    let t = g.T.ResourceType.TYPE in
    let texts : List (List ℕ) = map string_bytes c.args.list.now in
    let a = c.self.inside in
    let before : Kept = record { session = record { asked = a.names; account = a.ledger.account }; listed = a.ledger.listed } in
    let after : Kept = record { session = record { asked = a.names; account = c.take.new.self.account }; listed = c.take.new.self.listed } in
    let kept : a.names ≡ sotw_asked t a.names texts =
    ap (λ (k : Kept). k.session.asked) c.self.view_is ∙ sym c.requires.again ∙ ap (λ (k : Kept). sotw_asked t k.session.asked texts) (sym c.self.view_is) in
    subst (λ k. StaysFit StateOfTheWorld t k after) c.self.view_is
    (list_stays_fit StateOfTheWorld t before texts a.names c.nothing-touched.result c.take.new.self kept
    (c.nothing-touched.ensures ∙ sym (unchanged_touches_nothing a.names.interest))
    (subst (λ (n : Names). FitsNext StateOfTheWorld t n.touched a.ledger c.take.new.self) c.new-said.ensures c.in_ok-take.ensures.fits))
