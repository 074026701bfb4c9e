use Rattle.std.proofs.Common.{ap, ◌∙◌}
use Rattle.std.specs.FinMap as finmap
use Rattle.xds_cache.specs.Shelves.{Cache}
use Rattle.xds_cache.proofs.ChangedInPlace.{holds_wanted_kept}
use Rattle.xds_cache.proofs.shelf.Shelf.wanting.Goals as goal

pub invariant_of-result : goal.invariant_of-result
invariant_of-result c = λ name unwanted. ap (λ (m : Cache). finmap.get m name) c.in_ok-cache.ensures.ok ∙ holds_wanted_kept c.args.kind c.args.wants c.self.inside.cache name unwanted
