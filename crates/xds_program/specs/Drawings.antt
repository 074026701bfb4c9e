-- What becomes of a run that may draw a picture. This project's own.
--     IsDrawnOrDone   a run is done with this status, or done but for its picture, where there is a file for it
use Rattle.std.specs.Prelude.{◌≡◌, ◌⊎◌, ℕ, List, Option, Some}
use Rattle.xds_program.specs.declared.run.Ran.{Ran}
use Rattle.xds_program.specs.declared.run.Ran.TheVariants.{Done, Drawn}
use Rattle.xds_program.specs.Tasks.{Draws}

-- A run is done with this status; or it is done but for its picture, where there is a file for it.
abbrev pub IsDrawnOrDone : ℕ → Option (List ℕ) → Ran → Type 0
IsDrawnOrDone status file ran = (ran ≡ Done status) ⊎ ((d : Draws) × (ran ≡ Drawn d) × (file ≡ Some d.file) × (d.status ≡ status))
