use Rattle.xds_ledger.proofs.Suffices.{fits_inside}
use Rattle.xds_ledger.proofs.ledger.Ledger.is_due.Goals as goal

pub something_owed-requires : goal.something_owed-requires
something_owed-requires g c =
    fits_inside g.V.Variant.NAME c.NAME.result g.T.ResourceType.TYPE c.args.interest.now c.args.catalogue.now (record { account = c.self.inside.account; listed = c.self.inside.listed }) c.args.self.now c.beliefs-beliefs.result.now
    c.NAME.ensures c.self.view_is c.beliefs-beliefs.ensures c.requires
