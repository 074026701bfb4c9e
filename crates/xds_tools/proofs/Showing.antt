-- The status of what is shown of an answer.
use Rattle.std.proofs.Common.{◌≤◌, ℕ, List, inl, inr, arith}
use Rattle.xds_frames.specs.Devices.{Device}
use Rattle.xds_tools.specs.Asked.{ShowsBy}
use Rattle.xds_tools.specs.declared.asking.Shown.{Shown}
use Rattle.xds_tools.specs.declared.asking.Shown.TheVariants.{Body, Nothing, Refused}

-- it is 0 or 1
pub shown_status : (s : Shown) (answered : ℕ) (body : List ℕ) (status : ℕ) (output errors : Device) → ShowsBy s answered body status output errors → status ≤ 1
shown_status (Body wanted) answered body status output errors (inl shown) = omega (arith, shown.0)
shown_status (Body wanted) answered body status output errors (inr failed) = omega (arith, failed.0)
shown_status Nothing answered body status output errors told = omega (arith, told.1.1)
shown_status Refused answered body status output errors (stays, inl told) = omega (arith, told.1)
shown_status Refused answered body status output errors (stays, inr told) = omega (arith, told.1)
