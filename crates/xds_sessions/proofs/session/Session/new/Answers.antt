use Rattle.std.proofs.Common.{◌≡◌, sym, subst}
use Rattle.xds_ledger.specs.Lists.{Kept, SessionFits, new_kept}
use Rattle.xds_ledger.proofs.Keeping.{new_kept_fits}
use Rattle.xds_sessions.proofs.session.Session.new.Goals as goal

pub returns-clause-fits : goal.returns-clause-fits
returns-clause-fits g c =
    let made : Kept = record { session = record { asked = g.V.Speaks.asked c.unasked.result; account = c.new.result.account }; listed = c.new.result.listed } in
    let is : made ≡ new_kept c.args.cluster =
    (λ i. record { session = record { asked = c.unasked.ensures i; account = (c.new.ensures i).account }; listed = (c.new.ensures i).listed }) in
    λ h. subst (SessionFits g.V.Variant.NAME g.T.ResourceType.TYPE h) (sym is) (new_kept_fits g.V.Variant.NAME g.T.ResourceType.TYPE c.args.cluster h)
