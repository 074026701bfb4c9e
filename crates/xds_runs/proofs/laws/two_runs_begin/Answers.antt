use Rattle.std.proofs.Common.{[], ◌∷◌, refl}
use Rattle.xds_resource.proofs.BestWrites.{Contains-head}
use Rattle.xds_runs.specs.Runs.{Begin}
use Rattle.xds_runs.proofs.Stored.{begins_with_what_is_stored}
use Rattle.xds_runs.proofs.laws.two_runs_begin.Goals as goal

pub returns : goal.returns
returns c test = begins_with_what_is_stored test 65535 (Begin (1 ∷ []) ∷ []) refl (tt, tt) (2 ∷ []) 2 refl (Contains-head 2 [])
