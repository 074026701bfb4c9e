use Rattle.std.proofs.Common.{◌≡◌, true, map, string_bytes, ap, subst, ◌∙◌, not}
use Rattle.std.specs.FinSet as set
use Rattle.xds_interest.specs.Interests.{Selection}
use Rattle.xds_interest.specs.Touches.{sotw_touch}
use Rattle.xds_ledger.specs.declared.variant.VariantName.TheVariants.{StateOfTheWorld}
use Rattle.xds_ledger.specs.Ledgers.{Names, settled, taken}
use Rattle.xds_ledger.specs.Lists.{Kept, FitsNext, StaysFit}
use Rattle.xds_ledger.specs.Sessions.{Session, is_stale}
use Rattle.xds_ledger.proofs.Keeping.{list_stays_fit}
use Rattle.xds_sessions.proofs.SotwMade.{list_taken_by}
use Rattle.xds_sessions.proofs.sotw_session.session+Session+T+StateOfTheWorld.take_anew.Goals as goal

pub returns-clause-ok : goal.returns-clause-ok
returns-clause-ok g c =
    let s : Session = c.args.self.now.session in
    let before : Session = record { asked = c.self.inside.names; account = c.self.inside.ledger.account } in
    let held : not (is_stale s c.args.nonce.now) ≡ true = ap not c.requires.fresh in
    let touches : c.in_ok-touched.touched ≡ sotw_touch before.asked.interest c.interest-interest.result.now =
    c.in_ok-touched.ensures.ok ∙ ap (λ (i : Selection). sotw_touch i c.interest-interest.result.now) c.interest.ensures in
    list_taken_by g.T.ResourceType.TYPE s before c.args.nonce.now c.args.rejects (map string_bytes c.args.list.now) c.in_ok-names.names c.take.new.self.account c.interest-interest.result.now
    c.in_ok-touched.touched (set.from_list (map string_bytes c.names.result)) (ap (λ (k : Kept). k.session) c.self.view_is) held c.in_ok-names.ensures.ok c.interest-interest.ensures touches c.names.ensures.names
    (c.in_ok-take.ensures.ok ∙ ap (λ (n : Names). taken (settled StateOfTheWorld g.T.ResourceType.TYPE before.account c.args.nonce.now c.args.rejects) n) c.new-said.ensures)

pub returns-clause-fits : goal.returns-clause-fits
returns-clause-fits g c =
    let a = c.self.inside in
    let before : Kept = record { session = record { asked = a.names; account = a.ledger.account }; listed = a.ledger.listed } in
    let after : Kept = record { session = record { asked = c.in_ok-names.names; account = c.take.new.self.account }; listed = c.take.new.self.listed } in
    subst (λ k. StaysFit StateOfTheWorld g.T.ResourceType.TYPE k after) c.self.view_is
    (list_stays_fit StateOfTheWorld g.T.ResourceType.TYPE before (map string_bytes c.args.list.now) c.in_ok-names.names c.in_ok-touched.touched c.take.new.self c.in_ok-names.ensures.ok
    (c.in_ok-touched.ensures.ok ∙ ap (λ (i : Selection). sotw_touch i c.interest-interest.result.now) c.interest.ensures ∙ ap (sotw_touch a.names.interest) c.interest-interest.ensures)
    (subst (λ (n : Names). FitsNext StateOfTheWorld g.T.ResourceType.TYPE n.touched a.ledger c.take.new.self) c.new-said.ensures c.in_ok-take.ensures.fits))
