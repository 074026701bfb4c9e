-- How a run that judges a trace ends.
use Rattle.std.proofs.Common.{◌≡◌, sym, refl, subst, IfSome, ◌⊎◌, inl, inr, ℕ, List}
use Rattle.std.proofs.lemmas.Option.{IfSome_then}
use Rattle.xds_resource.specs.declared.refusal.Refusal.TheVariants.{Device as DeviceRefusal, OutOfMemory, BadTrace}
use Rattle.xds_frames.specs.Devices.{Device, HasFailed, Stays, Tells, Wrote, WrotePart}
use Rattle.xds_check.specs.Texts.{IsFirstBad}
use Rattle.xds_program.specs.Judged.{TellsVerdict}
use Rattle.xds_program.specs.Outcomes.{MayTell, Prints, RunsCheck, fault_line, refusal_line}
use Rattle.xds_program.proofs.Telling.{no_memory, part_written, unable}

module _ (input output errors : Device) where
  -- since its input failed
  pub unread : (status : ℕ) → HasFailed input → Stays output → Tells errors (refusal_line DeviceRefusal) → status ≡ 1 → RunsCheck status (record { input = input; output = output; errors = errors })
  unread status failed stays told is = inr (unable (MayTell input) input output errors DeviceRefusal status (inr (refl, inl failed)) stays told is)

  -- for want of memory
  pub unjudged : (status : ℕ) → Stays output → Tells errors (refusal_line OutOfMemory) → status ≡ 1 → RunsCheck status (record { input = input; output = output; errors = errors })
  unjudged status stays told is = inr (no_memory (MayTell input) input output errors status stays told is)

  -- by a verdict that is printed, or whose output fails in its midst
  pub verdict_told : (text written : List ℕ) (wanted status : ℕ) → IfSome input.before (λ bytes. TellsVerdict bytes wanted text) → written ≡ text
      → Prints written wanted status output errors → RunsCheck status (record { input = input; output = output; errors = errors })
  verdict_told text written wanted status is all (inl (ends, wrote, stays)) =
      inl (IfSome_then input.before is (λ bytes tells.
      inl (record { text = text; is = subst (λ (n : ℕ). TellsVerdict bytes n text) (sym ends) tells; written = subst (Wrote output) all wrote }, stays)))
  verdict_told text written wanted status is all (inr (ends, part, told)) =
      let may = IfSome_then input.before is (λ bytes tells. (wanted, tells)) in
      let cut = subst (WrotePart output) all part in
      inr (part_written (MayTell input) input output errors text DeviceRefusal status may (refl, cut) told ends)

  -- by the first bad line, told, or no memory to tell it
  pub bad_line_told : (line status : ℕ) → IfSome input.before (λ bytes. IsFirstBad bytes line) → Tells errors (fault_line line BadTrace) ⊎ Tells errors (refusal_line OutOfMemory)
      → Stays output → status ≡ 1 → RunsCheck status (record { input = input; output = output; errors = errors })
  bad_line_told line status is (inl told) stays one =
      inl (IfSome_then input.before is (λ bytes bad. inr (one, record { line = line; refusal = BadTrace; refuses = (refl, bad); told = told }, stays)))
  bad_line_told line status is (inr told) stays one = unjudged status stays told one
