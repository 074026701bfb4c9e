use Rattle.std.proofs.Common.{false, option_map, sym, ap, ◌∙◌}
use Rattle.std.specs.Option.{option_map_or}
use Rattle.xds_ledger.specs.Lists.{Books}
use Rattle.xds_ledger.specs.Offers.{Offer, offer, same_offer}
use Rattle.xds_ledger.proofs.ledger.Ledger.repeats.Goals as goal

pub returns-in-Some : goal.returns-in-Some
returns-in-Some g c =
    let o : Offer = offer g.V.Variant.NAME g.T.ResourceType.TYPE c.args.interest.now c.args.catalogue.now.entries c.args.self.now.account.beliefs in
    c.would_say.ensures ∙ ap (same_offer o) c.as_map.ensures
    ∙ ap (λ r. option_map_or (same_offer o) r false) (sym (ap (λ x. option_map (λ m. m.now) x) c.in-Some.is) ∙ c.refused.ensures)
    ∙ ap (λ (b : Books). option_map_or (same_offer o) b.account.refused false) c.self.view_is
