use Rattle.std.proofs.Common.{◌≡◌, true, false, sym, ap, ◌∙◌}
use Rattle.xds_ledger.specs.Variants.{is_whole}
use Rattle.xds_ledger.proofs.OfferMade.{whole_of}
use Rattle.xds_ledger.proofs.offers.said.Goals as goal

pub returns-then-is_whole-clause-ok : goal.returns-then-is_whole-clause-ok
returns-then-is_whole-clause-ok g c =
    let v = c.args.variant in
    let whole : is_whole v g.T.ResourceType.TYPE ≡ true = sym (c.is_whole.ensures ∙ ap (is_whole v) c.TYPE.ensures) ∙ c.if-is_whole.true in
    whole_of v g.T.ResourceType.TYPE c.args.interest.now c.args.catalogue.now.entries c.args.beliefs.now c.wholly.result whole c.wholly.ensures.ok

pub returns-clause-ok : goal.returns-clause-ok
returns-clause-ok g c =
    let v = c.args.variant in
    let partly : is_whole v g.T.ResourceType.TYPE ≡ false = sym (c.is_whole.ensures ∙ ap (is_whole v) c.TYPE.ensures) ∙ c.if-is_whole.false in
    c.in_ok-said.ensures.ok partly c.requires
