-- A line that is told, or that there was no memory for it.
use Rattle.std.proofs.Common.{◌≡◌, List, inl, inr, ℕ, IfOk, Result, Ok, Err, subst}
use Rattle.xds_frames.specs.Devices.{Device, Tells}
use Rattle.xds_resource.specs.declared.refusal.Refusal.{Refusal}
use Rattle.xds_notes.specs.Endings.{TellsLine, TellsText}

pub tells_line : {A : Type 0} (bytes : A → List ℕ) (r : Result A Refusal) (line : List ℕ) (d : Device) → IfOk r (λ t. bytes t ≡ line) → TellsText bytes r d → TellsLine line d
tells_line bytes (Ok t) line d is told = inl (subst (Tells d) is told)
tells_line bytes (Err e) line d is told = inr told
