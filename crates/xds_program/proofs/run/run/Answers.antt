use Rattle.std.proofs.KnownBytes.{Keeps-refl}
use Rattle.xds_program.proofs.Telling.{words_shown}
use Rattle.xds_program.proofs.run.run.Goals as goal

pub returns-in-Err : goal.returns-in-Err
returns-in-Err g c = words_shown _ _ _ _ c.in-Err.error _ c.in-Err.ensures.wrong c.in-Err.ensures.right (Keeps-refl _) (c.show.ensures _)
