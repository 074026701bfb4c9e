use Rattle.std.proofs.Common.{map, Bor, ap, ◌∙◌}
use Rattle.xds_resource.specs.Writes.{StampedWrite}
use Rattle.xds_ledger.proofs.OfferMade.{whole_made}
use Rattle.xds_ledger.proofs.offers.wholly.Goals as goal

abbrev seen : Bor StampedWrite → StampedWrite
seen w = w.now

pub returns-clause-ok : goal.returns-clause-ok
returns-clause-ok g c =
    whole_made g.T.ResourceType.TYPE c.args.interest.now c.args.catalogue.now.entries (map seen c.deref.result.now) c.in_ok-stated.stated c.in_ok-shown.ensures.named
    (ap (map seen) c.deref.ensures.value ∙ c.in_ok-shown.ensures.ok) c.in_ok-stated.ensures.ok
