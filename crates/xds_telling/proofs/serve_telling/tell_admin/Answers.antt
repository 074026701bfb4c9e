use Rattle.xds_telling.proofs.Tellings.{tells_line}
use Rattle.xds_telling.proofs.serve_telling.tell_admin.Goals as goal

pub returns : goal.returns
returns g c = tells_line _ c.admin_line.result _ _ c.admin_line.ensures c.put.ensures
