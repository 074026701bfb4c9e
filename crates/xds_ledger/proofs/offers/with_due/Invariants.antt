use Rattle.std.proofs.Common.{◌≡◌}
use Rattle.std.specs.FinMap as finmap
use Rattle.xds_resource.specs.Names.{pairs, put_all}
use Rattle.xds_ledger.specs.OfferParts.{told_of}
use Rattle.xds_ledger.proofs.offers.with_due.Given as goal

-- what is left decides
abbrev pub invariant-loop-name : goal.invariant-loop-name
invariant-loop-name g l =
    put_all (λ name number. told_of l.variant g.T.ResourceType.TYPE l.interest l.catalogue.entries l.beliefs name) l.said (pairs l.name-iterator)
    ≡ put_all (λ name number. told_of l.variant g.T.ResourceType.TYPE l.interest l.catalogue.entries l.beliefs name) l.initial.said (finmap.entries l.names)
