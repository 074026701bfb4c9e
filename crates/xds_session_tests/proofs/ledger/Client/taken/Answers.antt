use Rattle.std.proofs.Common.{◌≡◌, [], map, sym, ap, subst, ◌∙◌}
use Rattle.xds_resource.specs.declared.types.TypeName.TheVariants as types
use Rattle.xds_interest.specs.Interests.{Selection}
use Rattle.xds_interest.specs.Touches.{Touch}
use Rattle.xds_ledger.specs.Believing.{Names, versions_of}
use Rattle.xds_ledger.specs.Lists.{Fits, FitsNext}
use Rattle.xds_session_tests.proofs.Later.{books_taken}
use Rattle.xds_session_tests.proofs.ledger.Client.taken.Goals as goal

pub invariant_of-self-2-clause-anywhere : goal.invariant_of-self-2-clause-anywhere
invariant_of-self-2-clause-anywhere g c = ap (λ (s : Selection). s.cluster) (c.keep.ensures ∙ c.in_ok-next.ensures.ok) ∙ c.none.ensures

pub invariant_of-self-2-clause-fits : goal.invariant_of-self-2-clause-fits
invariant_of-self-2-clause-fits g c =
    let cluster : c.in_ok-next.next.cluster ≡ [] = ap (λ (s : Selection). s.cluster) c.in_ok-next.ensures.ok ∙ c.none.ensures in
    let same : c.resuming-names.result.touched ≡ c.in_ok-touched.touched =
    ap (λ (n : Names). n.touched) (c.resuming-names.ensures ∙ ap (λ (n : Names). record n { versions = versions_of (map (λ p. (p.0.now, p.1.now)) c.args.versions.now) }) c.new.ensures) in
    let fits = subst (λ (t : Touch). FitsNext g.V.Variant.NAME types.Cluster t c.args.self.now.ledger c.take.new.self) same c.in_ok-take.ensures.fits in
    subst (λ (s : Selection). Fits g.V.Variant.NAME types.Cluster s c.args.self.now.catalogue c.take.new.self) (sym c.keep.ensures)
    (books_taken g.V.Variant.NAME types.Cluster c.args.self.now.interest c.in_ok-next.next c.args.self.now.catalogue c.args.self.now.ledger c.take.new.self c.in_ok-touched.touched fits
    (c.args.self.now.anywhere ∙ sym cluster) c.in_ok-touched.ensures.ok c.args.self.now.fits)
