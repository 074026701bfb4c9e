use Rattle.std.proofs.Common.{refl}
use Rattle.xds_ledger.proofs.Suffices.{fits_inside, fits_outside}
use Rattle.xds_ledger.proofs.ledger.Ledger.tidy.Goals as goal

pub tidy-requires : goal.tidy-requires
tidy-requires g c =
    fits_inside g.V.Variant.NAME c.NAME.result g.T.ResourceType.TYPE c.args.interest.now c.args.catalogue.now (record { account = c.self.inside.account; listed = c.self.inside.listed }) c.args.self.now c.beliefs-beliefs.result.now
    c.NAME.ensures c.self.view_is c.beliefs-beliefs.ensures c.requires

pub returns-clause-fits : goal.returns-clause-fits
returns-clause-fits g c =
    let account = c.self.inside.account in
    fits_outside g.V.Variant.NAME c.NAME.result g.T.ResourceType.TYPE c.args.interest.now c.args.catalogue.now (record { account = account; listed = c.self.inside.listed }) c.args.self.now
    (record { account = account; listed = c.tidy.new.self }) c.beliefs-beliefs.result.now c.NAME.ensures c.self.view_is c.beliefs-beliefs.ensures refl c.tidy.ensures.sending c.tidy.ensures.fits c.requires
