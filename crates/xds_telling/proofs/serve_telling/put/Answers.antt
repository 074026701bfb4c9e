use Rattle.std.proofs.Common.{subst, sym}
use Rattle.std.specs.Prelude.{string_bytes}
use Rattle.xds_frames.specs.Devices.{seen}
use Rattle.xds_notes.specs.Endings.{TellsText}
use Rattle.xds_telling.proofs.serve_telling.put.Goals as goal

pub returns-in-Err : goal.returns-in-Err
returns-in-Err g c = subst (λ r. TellsText string_bytes r (seen g.E.Write.contents c.args.errors.now c.tell_no_memory.new.errors)) (sym c.in-Err.is) c.tell_no_memory.ensures
