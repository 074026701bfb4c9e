use Rattle.std.proofs.Common.{◌≡◌, ℕ, List, map, string_bytes, subst, ap, ◌∙◌}
use Rattle.std.specs.Prelude.{OnOk, is_some}
use Rattle.std.specs.FinMap as finmap
use Rattle.std.specs.FinSet as set
use Rattle.xds_message.specs.DeltaMessages.{DeltaRequest}
use Rattle.xds_interest.specs.Touches.{Touch}
use Rattle.xds_ledger.specs.Ledgers.{Account, Names, versions_of}
use Rattle.xds_ledger.specs.Lists.{FitsNext}
use Rattle.xds_ledger.specs.declared.variant.VariantName.TheVariants as variants
use Rattle.xds_ledger.proofs.Versions.{entries_in_order, versions_of_entries}
use Rattle.xds_sessions.proofs.DeltaMade.{taken_first}
use Rattle.xds_sessions.proofs.delta_session.take_first.Goals as goal

pub resuming-names-requires : goal.resuming-names-requires
resuming-names-requires g c =
    let pairs : List (List ℕ × List ℕ) = map (λ p. (p.0.now, p.1.now)) c.deref.result.now in
    let are : pairs ≡ finmap.entries c.args.request.now.initial_resource_versions =
    ap (map (λ p. (p.0.now, p.1.now))) c.deref.ensures.value ∙ c.in_ok-held.ensures.ok ∙ ap (λ (m : DeltaRequest). finmap.entries m.initial_resource_versions) c.request.view_is in
    entries_in_order pairs c.args.request.now.initial_resource_versions are

pub returns-clause-ok : goal.returns-clause-ok
returns-clause-ok g c =
    let held = c.args.request.now.initial_resource_versions in
    let pairs : List (List ℕ × List ℕ) = map (λ p. (p.0.now, p.1.now)) c.deref.result.now in
    let are : pairs ≡ finmap.entries held = ap (map (λ p. (p.0.now, p.1.now))) c.deref.ensures.value ∙ c.in_ok-held.ensures.ok ∙ ap (λ (m : DeltaRequest). finmap.entries m.initial_resource_versions) c.request.view_is in
    subst (λ (a : Account). OnOk c.take.result (c.take.new.self.account ≡ a))
    (taken_first g.T.ResourceType.TYPE c.args.ledger.now.account c.args.request.now c.args.interest.now c.args.touched.now (set.from_list (map string_bytes c.names.result)) c.as_str-nonce.result.now c.is_some-rejects.result
    (versions_of pairs) c.resuming-names.result (c.as_str-nonce.ensures.value ∙ ap (λ (m : DeltaRequest). m.response_nonce) c.request.view_is) (c.is_some-rejects.ensures ∙ ap (λ (m : DeltaRequest). is_some m.error_detail) c.request.view_is)
    c.names.ensures.names (versions_of_entries pairs held are) (c.resuming-names.ensures ∙ ap (λ (n : Names). record n { versions = versions_of pairs }) c.new.ensures))
    c.take.ensures.ok

pub returns-clause-fits : goal.returns-clause-fits
returns-clause-fits g c =
    let pairs : List (List ℕ × List ℕ) = map (λ p. (p.0.now, p.1.now)) c.deref.result.now in
    subst (λ (t : Touch). OnOk c.take.result (FitsNext variants.Delta g.T.ResourceType.TYPE t c.args.ledger.now c.take.new.self))
    (ap (λ (n : Names). n.touched) (c.resuming-names.ensures ∙ ap (λ (n : Names). record n { versions = versions_of pairs }) c.new.ensures))
    c.take.ensures.fits
