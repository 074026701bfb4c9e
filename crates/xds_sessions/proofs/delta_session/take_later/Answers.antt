use Rattle.std.proofs.Common.{◌≡◌, map, string_bytes, subst, ap, ◌∙◌}
use Rattle.std.specs.Prelude.{OnOk, is_some}
use Rattle.std.specs.FinSet as set
use Rattle.xds_message.specs.DeltaMessages.{DeltaRequest}
use Rattle.xds_ledger.specs.declared.variant.VariantName.TheVariants as variants
use Rattle.xds_ledger.specs.Ledgers.{Account, Names}
use Rattle.xds_ledger.specs.Lists.{FitsNext}
use Rattle.xds_sessions.proofs.DeltaMade.{taken_later}
use Rattle.xds_sessions.proofs.delta_session.take_later.Goals as goal

pub returns-clause-ok : goal.returns-clause-ok
returns-clause-ok g c =
    subst (λ (a : Account). OnOk c.take.result (c.take.new.self.account ≡ a))
    (taken_later g.T.ResourceType.TYPE c.args.ledger.now.account c.args.request.now c.args.interest.now c.args.touched.now (set.from_list (map string_bytes c.names.result)) c.as_str-nonce.result.now c.is_some-rejects.result
    c.new-names.result (c.as_str-nonce.ensures.value ∙ ap (λ (m : DeltaRequest). m.response_nonce) c.request.view_is) (c.is_some-rejects.ensures ∙ ap (λ (m : DeltaRequest). is_some m.error_detail) c.request.view_is)
    c.names.ensures.names c.new-names.ensures)
    c.take.ensures.ok

pub returns-clause-fits : goal.returns-clause-fits
returns-clause-fits g c =
    subst (λ (n : Names). OnOk c.take.result (FitsNext variants.Delta g.T.ResourceType.TYPE n.touched c.args.ledger.now c.take.new.self)) c.new-names.ensures c.take.ensures.fits
