use Rattle.xds_tools.proofs.GivingUp.{late_if}
use Rattle.xds_tools.proofs.polling.late.Goals as goal

pub returns-in-Err : goal.returns-in-Err
returns-in-Err g c = late_if _ _ _ _ c.in-Err.is c.gave_up.ensures
