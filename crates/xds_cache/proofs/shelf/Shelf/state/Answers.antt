use Rattle.std.proofs.Common.{ap, ◌∙◌}
use Rattle.std.specs.FinMap as finmap
use Rattle.xds_cache.specs.Shelves.{Cache}
use Rattle.xds_cache.proofs.ChangedInPlace.{holds_wanted_after}
use Rattle.xds_cache.proofs.shelf.Shelf.state.Goals as goal

pub invariant_of-self-2 : goal.invariant_of-self-2
invariant_of-self-2 c = λ name unwanted.
    ap (λ (m : Cache). finmap.get m name) c.in_ok-change_cache.ensures.ok
    ∙ holds_wanted_after c.args.kind c.self.inside.wants c.args.whole c.args.removed.now c.args.stated c.self.inside.cache name unwanted
