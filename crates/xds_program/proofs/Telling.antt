-- What a run tells, and how it ends.
use Rattle.std.proofs.Common.{◌≡◌, ◌++◌, ap, sym, arith, codes, refl, subst, Option, Some, None, IfSome, ◌⊎◌, inl, inr, ℕ, List, Result, Ok, Err, OnOk, IfErr}
use Rattle.xds_resource.specs.declared.refusal.Refusal.{Refusal}
use Rattle.xds_resource.specs.declared.refusal.Refusal.TheVariants.{Device as DeviceRefusal, OutOfMemory}
use Rattle.clap.proofs.CountText.{decimal-count_text}
use Rattle.xds_program.specs.Outcomes.{HasRun, IsCause, IsShown, IsUnable, RunsTask, fault_line, refusal_line}
use Rattle.xds_program.specs.declared.tasks.Task.{Task}
use Rattle.xds_program.specs.declared.run.Ran.TheVariants.{Done}
use Rattle.xds_program.specs.Words.{Asks, IsWrongBy}
use Rattle.clap.specs.declared.error.Error.{Error}
use Rattle.clap.specs.declared.error.kind.ErrorKind.TheVariants as kind
use Rattle.clap.specs.Words.{Text, kind_of}
use Rattle.std.specs.Prelude.{◌≢◌}
use Rattle.xds_frames.specs.Devices.{Device, HasFailed, Stays, Tells, Wrote, WrotePart}

-- what was written whole, or up to a call that failed, is told
pub tells : {T : Type 0} (d : Device) (bytes : List ℕ) (r : Result T Refusal) → OnOk r (Wrote d bytes) → IfErr r (λ e. (e ≡ DeviceRefusal) × WrotePart d bytes) → Tells d bytes
tells d bytes (Ok x) whole part = inl whole
tells d bytes (Err e) whole part = inr part.1

-- the two refusals that are told without a line, in words
pub device_text : codes "19 Device\n" ≡ refusal_line DeviceRefusal
device_text = ap (λ (number : List ℕ). number ++ codes " " ++ codes "Device" ++ codes "\n") (sym (decimal-count_text 19 (omega arith)))

pub memory_text : codes "8 OutOfMemory\n" ≡ refusal_line OutOfMemory
memory_text = ap (λ (number : List ℕ). number ++ codes " " ++ codes "OutOfMemory" ++ codes "\n") (sym (decimal-count_text 8 (omega arith)))

-- a run that can't go on before anything is written
pub unable : (May : List ℕ → Type 0) (input output errors : Device) (refusal : Refusal) (status : ℕ) → IsCause refusal input output → Stays output
    → Tells errors (refusal_line refusal) → status ≡ 1 → IsUnable May status (record { input = input; output = output; errors = errors })
unable May input output errors refusal status cause stays told is = record {
  refusal = refusal;
  is_cause = cause;
  output = inl stays;
  told = told;
  status_is = is;
}

-- for want of memory
pub no_memory : (May : List ℕ → Type 0) (input output errors : Device) (status : ℕ) → Stays output → Tells errors (refusal_line OutOfMemory) → status ≡ 1
    → IsUnable May status (record { input = input; output = output; errors = errors })
no_memory May input output errors status stays told is = unable May input output errors OutOfMemory status (inl refl) stays told is

-- a run whose output failed in the midst of a text
pub part_written : (May : List ℕ → Type 0) (input output errors : Device) (text : List ℕ) (refusal : Refusal) (status : ℕ) → May text
    → (refusal ≡ DeviceRefusal) × WrotePart output text → Tells errors (refusal_line refusal) → status ≡ 1
    → IsUnable May status (record { input = input; output = output; errors = errors })
part_written May input output errors text refusal status may failed told is = record {
  refusal = refusal;
  is_cause = inr (failed.0, inr failed.1.0);
  output = inr (text, may, failed.1);
  told = told;
  status_is = is;
}

-- what is said of an input that was read whole
pub of_input : (P : List ℕ → Type 0) (before : Option (List ℕ)) (bytes : List ℕ) → IfSome before (λ all. bytes ≡ all) → P bytes → IfSome before P
of_input P None bytes same h = tt
of_input P (Some all) bytes same h = subst P same h

-- a task over its input: what is called for, and what is refused
module _ (Is : List ℕ → List ℕ → Type 0) (Refuses : List ℕ → ℕ → Refusal → Type 0) (input output errors : Device) where
  -- for want of its input
  pub not_read : (refusal : Refusal) (status : ℕ) → (refusal ≡ OutOfMemory) ⊎ ((refusal ≡ DeviceRefusal) × HasFailed input) → Stays output
      → Tells errors (refusal_line refusal) → status ≡ 1 → RunsTask Is Refuses status (record { input = input; output = output; errors = errors })
  not_read refusal status (inl memory) stays told is = inr (unable _ input output errors refusal status (inl memory) stays told is)
  not_read refusal status (inr failed) stays told is = inr (unable _ input output errors refusal status (inr (failed.0, inl failed.1)) stays told is)

  -- for want of memory, once the input was read
  pub no_room : (status : ℕ) → Stays output → Tells errors (refusal_line OutOfMemory) → status ≡ 1 → RunsTask Is Refuses status (record { input = input; output = output; errors = errors })
  no_room status stays told is = inr (no_memory _ input output errors status stays told is)

  -- what the bytes that were read call for, written whole
  pub text_written : (bytes given text written : List ℕ) → IfSome input.before (λ all. bytes ≡ all)
      → given ≡ bytes → Is given text → written ≡ text → Wrote output written → Stays errors → RunsTask Is Refuses 0 (record { input = input; output = output; errors = errors })
  text_written bytes given text written same lent is all wrote stays =
      inl (of_input _ input.before bytes same (inl (
        refl,
        record {
          text = text;
          is = subst (λ (b : List ℕ). Is b text) lent is;
          written = subst (Wrote output) all wrote;
        },
        stays,
      )))

  -- what the bytes that were read call for, written in part
  pub text_begun : (bytes given text written : List ℕ) (refusal : Refusal) (status : ℕ) → IfSome input.before (λ all. bytes ≡ all)
      → given ≡ bytes → Is given text → written ≡ text → (refusal ≡ DeviceRefusal) × WrotePart output written → Tells errors (refusal_line refusal) → status ≡ 1
      → RunsTask Is Refuses status (record { input = input; output = output; errors = errors })
  text_begun bytes given text written refusal status same lent is all failed told one =
      let of_bytes = of_input (λ b. Is b text) input.before bytes same (subst (λ (b : List ℕ). Is b text) lent is) in
      let part = subst (λ (t : List ℕ). (refusal ≡ DeviceRefusal) × WrotePart output t) all failed in
      inr (part_written _ input output errors text refusal status of_bytes part told one)

  -- what the bytes that were read call for, of which nothing is written for want of memory, or a part
  pub text_unwritten : (bytes given text written : List ℕ) (refusal : Refusal) (status : ℕ) → IfSome input.before (λ all. bytes ≡ all)
      → given ≡ bytes → Is given text → written ≡ text → ((refusal ≡ OutOfMemory) × Stays output) ⊎ ((refusal ≡ DeviceRefusal) × WrotePart output written)
      → Tells errors (refusal_line refusal) → status ≡ 1 → RunsTask Is Refuses status (record { input = input; output = output; errors = errors })
  text_unwritten bytes given text written refusal status same lent is all (inl memory) told one = no_room status memory.1 (subst (λ (e : Refusal). Tells errors (refusal_line e)) memory.0 told) one
  text_unwritten bytes given text written refusal status same lent is all (inr failed) told one = text_begun bytes given text written refusal status same lent is all failed told one

  -- the first line that is refused, told, or no memory to tell it
  pub fault_told : (bytes given : List ℕ) (line : ℕ) (refusal : Refusal) (status : ℕ)
      → IfSome input.before (λ all. bytes ≡ all) → given ≡ bytes → Refuses given line refusal → Tells errors (fault_line line refusal) ⊎ Tells errors (refusal_line OutOfMemory) → Stays output → status ≡ 1
      → RunsTask Is Refuses status (record { input = input; output = output; errors = errors })
  fault_told bytes given line refusal status same lent is (inl told) stays one =
      let of_bytes = subst (λ (b : List ℕ). Refuses b line refusal) lent is in
      inl (of_input _ input.before bytes same (inr (one, record { line = line; refusal = refusal; refuses = of_bytes; told = told }, stays)))
  fault_told bytes given line refusal status same lent is (inr told) stays one = inr (no_memory _ input output errors status stays told one)

-- what may be begun may be begun under a weaker name
weaker : (P Q : List ℕ → Type 0) (output : Device) → ((text : List ℕ) → P text → Q text)
    → Stays output ⊎ ((text : List ℕ) × P text × WrotePart output text) → Stays output ⊎ ((text : List ℕ) × Q text × WrotePart output text)
weaker P Q output h (inl stays) = inl stays
weaker P Q output h (inr begun) = inr (begun.0, h begun.0 begun.1, begun.2)

-- words that were not taken ask for nothing, and are shown help, or what is wrong with them
pub words_shown : (words : List Text) (input output errors : Device) (e : Error) (status : ℕ) → IsWrongBy words (kind_of e)
    → ((task : Task) → Asks words task → kind_of e ≡ kind.OutOfMemory) → Stays input
    → IsUnable (λ text. kind_of e ≢ kind.OutOfMemory) status (record { input = input; output = output; errors = errors })
    ⊎ ((kind_of e ≢ kind.OutOfMemory) × IsShown (kind_of e) status output errors)
    → HasRun words (Done status) (record { input = input; output = output; errors = errors })
words_shown words input output errors e status wrong right unread (inl unable) = inr (
  status,
  refl,
  inr (record {
    refusal = unable.refusal;
    is_cause = unable.is_cause;
    output = weaker _ _ output (λ text other task asked. other (right task asked)) unable.output;
    told = unable.told;
    status_is = unable.status_is;
  }),
)
words_shown words input output errors e status (inl memory) right unread (inr shown) = absurd (shown.0 memory)
words_shown words input output errors e status (inr fault) right unread (inr shown) = inr (
  status,
  refl,
  inl (record {
    kind = kind_of e;
    is_fault = fault;
    asks_none = λ task asked. shown.0 (right task asked);
    unread = unread;
    shown = shown.1;
  }),
)
