-- How a line of a server's input is refused. This project's own.
--     IsFaultOf   how a line is refused: with its cause where it is no line of a script
use Rattle.std.specs.Prelude.{◌≡◌, ◌⊎◌, ℕ, List, Some, None}
use Rattle.xds_resource.specs.declared.refusal.Refusal.TheVariants.{BadScript}
use Rattle.xds_causes.specs.declared.cause.Cause.{Cause}
use Rattle.xds_causes.specs.Causes.{IsCauseOf}
use Rattle.xds_notes.specs.declared.fault.Fault.{Fault}

-- how a line is refused: with its cause, where it is no line of a script and there was memory to find it
abbrev pub IsFaultOf : List ℕ → Fault → Type 0
IsFaultOf line f = (f.cause ≡ None) ⊎ ((f.refusal ≡ BadScript) × ((c : Cause) × IsCauseOf line c × (f.cause ≡ Some c)))
