use Rattle.std.proofs.Common.{◌≡◌, true, sym, ap, subst, ◌∙◌}
use Rattle.xds_ledger.specs.Variants.{is_delta}
use Rattle.xds_ledger.specs.Listed as lists
use Rattle.xds_ledger.specs.Lists.{Books}
use Rattle.xds_ledger.proofs.StandsOver.{told_first}
use Rattle.xds_ledger.proofs.ledger.Ledger.rebase.Goals as goal

pub rebase-requires : goal.rebase-requires
rebase-requires g c =
    let v = g.V.Variant.NAME in
    let t = g.T.ResourceType.TYPE in
    let s = c.args.interest.now in
    let h = c.args.catalogue.now in
    let inside = c.self.inside in
    let delta : is_delta v ≡ true = ap is_delta (sym c.NAME.ensures) ∙ sym c.is_delta.ensures ∙ c.if-not-is_delta.false in
    let fits : lists.Fits v t s h inside.account.beliefs inside.listed = subst (λ (x : Books). lists.Fits v t s h x.account.beliefs x.listed) (sym c.self.view_is) c.requires.fits.list in
    told_first v t s h inside.account.beliefs inside.listed c.args.offer delta c.next_change.ensures.numbered fits (sym c.mark-mark.ensures ∙ c.if-mark-changes.false ∙ c.changes.ensures) c.requires.first
