-- What is told behind the outcome of a run, and of a trace that is read whole.
use Rattle.std.proofs.Common.{◌≡◌, ◌⊎◌, Bool, true, false, List, ℕ, refl, sym, subst, inl, inr, IfSome, Option, Some, None}
use Rattle.std.specs.Prelude.{is_some}
use Rattle.std.specs.Option.{option_map}
use Rattle.xds_resource.specs.declared.refusal.Refusal.{Refusal}
use Rattle.xds_resource.specs.declared.refusal.Refusal.TheVariants.{Device as DeviceRefusal, OutOfMemory, BadTrace}
use Rattle.xds_frames.specs.Devices.{Device, HasFailed, Stays, Tells, Wrote, WrotePart}
use Rattle.xds_check.specs.Texts.{IsFirstBad}
use Rattle.xds_program.specs.declared.run.Ran.{Ran}
use Rattle.xds_program.specs.Drawings.{IsDrawnOrDone}
use Rattle.xds_program.specs.Outcomes.{Draws, MayTellSoFar, Prints, PrintsSo, RunsBy, RunsChecked, RunsPlay, RunsSoFar, RunsWanted, Streams, TellsBehind, fault_line, refusal_line}
use Rattle.xds_program.specs.Tasks.{Checks, Plays}
use Rattle.xds_program.specs.SoFar.{TellsSoFar}
use Rattle.xds_program.proofs.Telling.{no_memory, of_input, part_written, unable}

-- what is printed, whatever is left as the cause
pub prints_only : (text before after : List ℕ) (wanted status : ℕ) (output errors : Device) → PrintsSo text before after wanted status output errors → Prints text wanted status output errors
prints_only text before after wanted status output errors (inl all) = inl (all.0, all.2, all.3)
prints_only text before after wanted status output errors (inr part) = inr part

-- a run that ended so is done, or done but for its picture
pub drawn : (file : Option (List ℕ)) (Ends : ℕ → Streams → Type 0) (status : ℕ) (ran : Ran) (s : Streams) → IsDrawnOrDone status file ran → Ends status s → Draws file Ends ran s
drawn file Ends status ran s (inl done) ends = inl (status, done, ends)
drawn file Ends status ran s (inr (d, is, file_is, same)) ends = inr (d, is, file_is, subst (λ (n : ℕ). Ends n s) (sym same) ends)

-- a task's fields are those of what it is made from
pub drawn_play : (t : Plays) (trace : Option ℕ) (picture : Option (List ℕ)) (ran : Ran) (s : Streams) → ◌≡◌ {A = Plays} (record { trace = trace; picture = picture }) t
    → Draws picture (TellsBehind (λ cause. RunsPlay trace)) ran s → Draws t.picture (TellsBehind (λ cause. RunsPlay t.trace)) ran s
drawn_play t trace picture ran s is runs = subst (λ (x : Plays). Draws x.picture (TellsBehind (λ cause. RunsPlay x.trace)) ran s) is runs

pub drawn_check : (t : Checks) (so_far explain : Bool) (picture : Option (List ℕ)) (ran : Ran) (s : Streams) → ◌≡◌ {A = Checks} (record { so_far = so_far; explain = explain; picture = picture }) t
    → Draws picture (TellsBehind (RunsWanted so_far explain (is_some picture))) ran s → Draws t.picture (TellsBehind (RunsChecked t)) ran s
drawn_check t so_far explain picture ran s is runs = subst (λ (x : Checks). Draws x.picture (TellsBehind (RunsChecked x)) ran s) is runs

-- whether a picture is wanted
pub is_some-map : {A B : Type 0} (f : A → B) (o : Option A) → is_some o ≡ is_some (option_map f o)
is_some-map f None = refl
is_some-map f (Some a) = refl

-- a run of the first of two ways
pub run_first : (is_first : Bool) (First Second : ℕ → Streams → Type 0) (status : ℕ) (s : Streams) → is_first ≡ true → First status s → RunsBy is_first First Second status s
run_first is_first First Second status s is runs = subst (λ (b : Bool). RunsBy b First Second status s) (sym is) runs

-- and of the second
pub run_second : (is_first : Bool) (First Second : ℕ → Streams → Type 0) (status : ℕ) (s : Streams) → is_first ≡ false → Second status s → RunsBy is_first First Second status s
run_second is_first First Second status s is runs = subst (λ (b : Bool). RunsBy b First Second status s) (sym is) runs

-- `xds check` of a trace that is read whole
module _ (so_far explains : Bool) (input output errors : Device) where
  -- for want of its input
  pub not_read : (cause : List ℕ) (refusal : Refusal) (status : ℕ) → (refusal ≡ OutOfMemory) ⊎ ((refusal ≡ DeviceRefusal) × HasFailed input) → Stays output
      → Tells errors (refusal_line refusal) → status ≡ 1 → RunsSoFar so_far explains cause status (record { input = input; output = output; errors = errors })
  not_read cause refusal status (inl memory) stays told is = inr (unable (MayTellSoFar so_far explains input) input output errors refusal status (inl memory) stays told is)
  not_read cause refusal status (inr failed) stays told is = inr (unable (MayTellSoFar so_far explains input) input output errors refusal status (inr (failed.0, inl failed.1)) stays told is)

  -- for want of memory
  pub no_room : (cause : List ℕ) (status : ℕ) → Stays output → Tells errors (refusal_line OutOfMemory) → status ≡ 1 → RunsSoFar so_far explains cause status (record { input = input; output = output; errors = errors })
  no_room cause status stays told is = inr (no_memory (MayTellSoFar so_far explains input) input output errors status stays told is)

  -- by a verdict that is printed, or whose output fails in its midst
  pub verdict_told : (bytes given text written before after : List ℕ) (wanted status : ℕ) → IfSome input.before (λ all. bytes ≡ all) → given ≡ bytes
      → TellsSoFar so_far explains given before wanted text → written ≡ text → PrintsSo written before after wanted status output errors
      → RunsSoFar so_far explains after status (record { input = input; output = output; errors = errors })
  verdict_told bytes given text written before after wanted status same lent tells all (inl (ends, kept, wrote, stays)) =
      let of_bytes = subst (λ (b : List ℕ). TellsSoFar so_far explains b before wanted text) lent tells in
      inl (of_input _ input.before bytes same (inl (
        record {
          text = text;
          is = subst (λ (c : List ℕ). TellsSoFar so_far explains bytes c status text) (sym kept) (subst (λ (n : ℕ). TellsSoFar so_far explains bytes before n text) (sym ends) of_bytes);
          written = subst (Wrote output) all wrote;
        },
        stays,
      )))
  verdict_told bytes given text written before after wanted status same lent tells all (inr (ends, part, told)) =
      let of_bytes = subst (λ (b : List ℕ). TellsSoFar so_far explains b before wanted text) lent tells in
      let may = of_input (λ (b : List ℕ). (cause : List ℕ) × (n : ℕ) × TellsSoFar so_far explains b cause n text) input.before bytes same (before, wanted, of_bytes) in
      inr (part_written (MayTellSoFar so_far explains input) input output errors text DeviceRefusal status may (refl, subst (WrotePart output) all part) told ends)

  -- by the first bad line, told, or no memory to tell it
  pub bad_line_told : (bytes given cause : List ℕ) (line status : ℕ) → IfSome input.before (λ all. bytes ≡ all) → given ≡ bytes → IsFirstBad given line
      → Tells errors (fault_line line BadTrace) ⊎ Tells errors (refusal_line OutOfMemory) → Stays output → status ≡ 1
      → RunsSoFar so_far explains cause status (record { input = input; output = output; errors = errors })
  bad_line_told bytes given cause line status same lent bad (inl told) stays one =
      let of_bytes = subst (λ (b : List ℕ). IsFirstBad b line) lent bad in
      inl (of_input _ input.before bytes same (inr (one, record { line = line; refusal = BadTrace; refuses = (refl, of_bytes); told = told }, stays)))
  bad_line_told bytes given cause line status same lent bad (inr told) stays one = no_room cause status stays told one
