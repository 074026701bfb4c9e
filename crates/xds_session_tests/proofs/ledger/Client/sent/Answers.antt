use Rattle.xds_resource.specs.declared.types.TypeName.TheVariants as types
use Rattle.xds_session_tests.proofs.Later.{books_sent}
use Rattle.xds_session_tests.proofs.ledger.Client.sent.Goals as goal

pub invariant_of-self-clause-fits : goal.invariant_of-self-clause-fits
invariant_of-self-clause-fits g c =
    books_sent g.V.Variant.NAME types.Cluster c.args.self.now.interest c.args.self.now.catalogue c.args.self.now.ledger c.send.new.self c.in_ok-offer.offer c.in_ok-number.number c.in_ok-offer.ensures c.send.ensures c.args.self.now.fits
