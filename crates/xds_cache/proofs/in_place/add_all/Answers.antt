use Rattle.xds_cache.proofs.ChangedInPlace.{added_next}
use Rattle.xds_cache.proofs.in_place.add_all.Goals as goal

pub loop-name-preserved : goal.loop-name-preserved
loop-name-preserved c = added_next c.args.stated.now c.loop-name.cache c.args.cache.now c.add.new.cache c.args.names.now c.loop-name.name-index _ c.loop-name-test.true c.in_default.ensures.ok c.loop-name.invariant
