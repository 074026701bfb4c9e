use Rattle.xds_sessions.proofs.published.Published.of.Goals as goal

pub invariant_of-result : goal.invariant_of-result
invariant_of-result g c = c.none.ensures.fits g.T.ResourceType.TYPE c.args.catalogue.entries
