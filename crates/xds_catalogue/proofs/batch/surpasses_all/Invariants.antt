use Rattle.std.proofs.Common.{◌≡◌, take, true}
use Rattle.xds_resource.specs.Best.{best}
use Rattle.xds_catalogue.specs.Changes.{surpasses}
use Rattle.xds_catalogue.proofs.batch.surpasses_all.Given as goal

abbrev pub invariant-loop-other : goal.invariant-loop-other
invariant-loop-other g l = surpasses l.write (best (take l.other-index l.others) l.write.name) ≡ true
