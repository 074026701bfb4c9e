use Rattle.std.proofs.Common.{refl}
use Rattle.xds_check.proofs.reading.response_with.Goals as goal

pub returns-in-Ok : goal.returns-in-Ok
returns-in-Ok c = (c.in-Ok.response, refl, c.in-Ok.ensures)

pub returns-in-Err : goal.returns-in-Err
returns-in-Err c = λ other. let k = c.in-Err.ensures other in (k.0, λ l is. k.1 is.0 is.2)
