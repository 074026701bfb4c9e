use Rattle.xds_cache.proofs.ChangedInPlace.{pruned_as}
use Rattle.xds_cache.proofs.shelf.change_cache.Goals as goal

pub change-requires : goal.change-requires
change-requires c = pruned_as c.args.pruned c.args.kind c.args.wants.now c.args.cache.now (c.is_partial.ensures.pruned c.if-is_partial.true) c.requires
