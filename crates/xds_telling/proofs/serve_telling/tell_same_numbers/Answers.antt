use Rattle.xds_telling.proofs.Tellings.{tells_line}
use Rattle.xds_telling.proofs.serve_telling.tell_same_numbers.Goals as goal

pub returns : goal.returns
returns g c = tells_line _ c.same_numbers_line.result _ _ c.same_numbers_line.ensures c.put.ensures
