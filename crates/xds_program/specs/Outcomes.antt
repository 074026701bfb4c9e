-- What a run of the program leaves on its output and its error output, and its status. This project's own.
--     refusal_line     how a refusal is told
--     fault_line       how a refused line is told
--     Streams          the reader, the output and the error output of a run
--     IsPrinted        a text that is called for is written, and no more
--     TellsFault       the line that is refused is told
--     Prints           a text is written with this status
--     PrintsSo         the same, where a cause is left as it is
--     HasOutcome       status 0 comes with the text that the input calls for
--     IsCause          there was no memory, or a device failed: the refusal says which
--     IsUnable         the run can't go on, and tells why
--     RunsTask         a task has its outcome, or can't go on, at the latest in the midst of its text
--     RunsAnswer       `xds answer` as this replica
--     IsBadLine        a line of a script is refused: it is the first that is bad
--     IsPlayedFor      what is printed of a script that has no bad line
--     RunsPlay         `xds play`: what is printed of the script, or its first bad line
--     IsBadTraceLine   a line of a trace is refused: it is the first that is bad
--     MayTell          a verdict of the input may be printed, with one status or the other
--     HasVerdict       a verdict is printed, with its status
--     RunsCheck        `xds check`: the verdict on a trace, or its first bad line
--     MayTellSoFar     a verdict of an input that may be cut short may be printed
--     HasVerdictSoFar  a verdict is printed, with its status, on a trace that may be cut short
--     RunsSoFar        `xds check` of a trace that is read whole, and what is told of it beside that
--     RunsBy           one of two ways to run
--     RunsWanted       `xds check` of a trace that is read whole, or as it comes
--     RunsChecked      that, as the task has it
--     AreJoined        a device goes through one state between two others
--     cause_line       the line of a cause, or of a note on what is no fault
--     TellsCause       a cause is told in one line, if there is one
--     TellsBehind      what is told of a run, and behind it what is wrong in words
--     IsDrawn          a run is done but for its picture, which is for this file
--     Draws            a run is done, or done but for its picture
--     IsSame           the device is as it was, and none of its calls failed
--     IsUntouched      nothing is read, and nothing is written
--     IsDone           the task is done, with this status, and has its outcome
--     IsHanded         a task is handed to the caller, untouched
--     Runs             what becomes of a task: `xds answer`, `xds play` and `xds check` are done
--     IsCall           the words call for help, or for the version
--     IsShown          help goes to the output, with status 0
--     AsksNone         no task is asked for
--     IsAside          the words ask for no task: they call for help, or they are wrong. The input isn't read.
--     HasRun           a run whose words ask for a task does it, or tells the line that is refused
use Rattle.std.specs.Prelude.{◌≡◌, ◌⊎◌, ◌||◌, is_some, if◌then◌else◌, ℕ, Bool, true, false, List, [], ◌∷◌, ◌++◌, IfSome, Option, None, Some, codes, decimal}
use Rattle.clap.specs.declared.error.kind.ErrorKind.{ErrorKind}
use Rattle.clap.specs.declared.error.kind.ErrorKind.TheVariants.{DisplayHelp, DisplayVersion}
use Rattle.clap.specs.Words.{Text}
use Rattle.xds_resource.specs.declared.refusal.Refusal.{Refusal}
use Rattle.xds_resource.specs.declared.refusal.Refusal.TheVariants.{Device as DeviceRefusal, OutOfMemory, BadScript, BadTrace}
use Rattle.xds_resource.specs.Refusals.{number_of, name_of}
use Rattle.xds_program.specs.Faults.{IsAnswer, IsFault}
use Rattle.xds_frames.specs.Devices.{Device, HasFailed, Stays, Tells, WrotePart, Wrote}
use Rattle.xds_play.specs.declared.play.Unplayed.TheVariants as unplayed
use Rattle.xds_play.specs.Played.{IsPlayed, IsUnplayed}
use Rattle.xds_check.specs.Texts.{IsFirstBad}
use Rattle.xds_play.specs.Traced.{IsTraced}
use Rattle.xds_program.specs.Judged.{TellsVerdict}
use Rattle.xds_program.specs.declared.tasks.Task.{Task}
use Rattle.xds_program.specs.declared.tasks.Task.TheVariants.{Answer, Play, Check, Serve, Client, Poll, Writes, Status, Get, Put, Delete}
use Rattle.xds_program.specs.declared.run.Ran.{Ran}
use Rattle.xds_program.specs.declared.run.Ran.TheVariants.{Done}
use Rattle.xds_program.specs.declared.run.Ran.TheVariants as rans
use Rattle.xds_program.specs.Words.{Asks, IsFaultOf}
use Rattle.xds_program.specs.SoFar.{TellsSoFar}
use Rattle.xds_program.specs.Tasks.{Checks, Draws as Drawing}
use Rattle.xds_causes.specs.PlainLines.{plain_line}

-- how a refusal is told
abbrev pub refusal_line : Refusal → List ℕ
refusal_line refusal = decimal (number_of refusal) ++ codes " " ++ name_of refusal ++ codes "\n"

-- how a refused line is told
abbrev pub fault_line : ℕ → Refusal → List ℕ
fault_line line refusal = codes "line " ++ decimal line ++ codes ": " ++ refusal_line refusal

-- the reader, the output and the error output of a run
pub record Streams : Type 0 where
  pub input : Device
  pub output : Device
  pub errors : Device

-- a text that is called for is written, and no more
pub record IsPrinted (Is : List ℕ → Type 0) (output : Device) : Type 0 where
  pub text : List ℕ
  pub is : Is text
  pub written : Wrote output text

-- the line that is refused is told
pub record TellsFault (Refuses : ℕ → Refusal → Type 0) (errors : Device) : Type 0 where
  pub line : ℕ
  pub refusal : Refusal
  pub refuses : Refuses line refusal
  pub told : Tells errors (fault_line line refusal)

-- A text is written with this status; or the output fails in its midst, which is told with status 1.
abbrev pub Prints : List ℕ → ℕ → ℕ → Device → Device → Type 0
Prints text wanted status output errors =
    ((status ≡ wanted) × Wrote output text × Stays errors) ⊎ ((status ≡ 1) × WrotePart output text × Tells errors (refusal_line DeviceRefusal))

-- The same, where a cause is left as it is unless the output fails.
abbrev pub PrintsSo : List ℕ → List ℕ → List ℕ → ℕ → ℕ → Device → Device → Type 0
PrintsSo text before after wanted status output errors =
    ((status ≡ wanted) × (after ≡ before) × Wrote output text × Stays errors)
    ⊎ ((status ≡ 1) × WrotePart output text × Tells errors (refusal_line DeviceRefusal))

-- Status 0 comes with the text that the input calls for, and status 1 with the line that is refused and no output.
abbrev pub HasOutcome : (List ℕ → List ℕ → Type 0) → (List ℕ → ℕ → Refusal → Type 0) → ℕ → Streams → Type 0
HasOutcome Is Refuses status s = IfSome s.input.before (λ input.
    ((status ≡ 0) × IsPrinted (Is input) s.output × Stays s.errors) ⊎ ((status ≡ 1) × TellsFault (Refuses input) s.errors × Stays s.output))

-- There was no memory, or a device failed: the refusal says which.
abbrev pub IsCause : Refusal → Device → Device → Type 0
IsCause refusal input output = (refusal ≡ OutOfMemory) ⊎ ((refusal ≡ DeviceRefusal) × (HasFailed input ⊎ HasFailed output))

-- The run can't go on, and tells why. The output stays, or a call of it failed in the midst of a text that may be begun.
pub record IsUnable (MayBegin : List ℕ → Type 0) (status : ℕ) (s : Streams) : Type 0 where
  pub refusal : Refusal
  pub is_cause : IsCause refusal s.input s.output
  pub output : Stays s.output ⊎ ((text : List ℕ) × MayBegin text × WrotePart s.output text)
  pub told : Tells s.errors (refusal_line refusal)
  pub status_is : status ≡ 1

-- a task has its outcome, or can't go on, at the latest in the midst of its text
abbrev pub RunsTask : (List ℕ → List ℕ → Type 0) → (List ℕ → ℕ → Refusal → Type 0) → ℕ → Streams → Type 0
RunsTask Is Refuses status s = HasOutcome Is Refuses status s ⊎ IsUnable (λ text. IfSome s.input.before (λ input. Is input text)) status s

-- `xds answer` as this replica: the answer to an input of good lines, or its first line that is refused
abbrev pub RunsAnswer : ℕ → ℕ → Streams → Type 0
RunsAnswer replica status s = RunsTask (IsAnswer replica) IsFault status s

-- a line of a script is refused: it is the first that is bad
abbrev pub IsBadLine : List ℕ → ℕ → Refusal → Type 0
IsBadLine script line refusal = (refusal ≡ BadScript) × IsUnplayed script (unplayed.BadScript line)

-- what is printed of a script that has no bad line: what its show lines ask for, or the trace of a replica
abbrev pub IsPlayedFor : Option ℕ → List ℕ → List ℕ → Type 0
IsPlayedFor None script text = IsPlayed script text
IsPlayedFor (Some replica) script text = IsTraced replica script text

-- `xds play`: what is printed of the script, or its first bad line
abbrev pub RunsPlay : Option ℕ → ℕ → Streams → Type 0
RunsPlay trace status s = RunsTask (IsPlayedFor trace) IsBadLine status s

-- a line of a trace is refused: it is the first that is bad
abbrev pub IsBadTraceLine : List ℕ → ℕ → Refusal → Type 0
IsBadTraceLine input line refusal = (refusal ≡ BadTrace) × IsFirstBad input line

-- a verdict of the input may be printed, with one status or the other
abbrev pub MayTell : Device → List ℕ → Type 0
MayTell input text = IfSome input.before (λ bytes. (status : ℕ) × TellsVerdict bytes status text)

-- a verdict is printed, with its status; or the first bad line is told, with status 1 and no output
abbrev pub HasVerdict : ℕ → Streams → Type 0
HasVerdict status s = IfSome s.input.before (λ input.
    (IsPrinted (TellsVerdict input status) s.output × Stays s.errors) ⊎ ((status ≡ 1) × TellsFault (IsBadTraceLine input) s.errors × Stays s.output))

-- `xds check`: the verdict on a trace, or its first bad line
abbrev pub RunsCheck : ℕ → Streams → Type 0
RunsCheck status s = HasVerdict status s ⊎ IsUnable (MayTell s.input) status s

-- a verdict of an input that may be cut short may be printed
abbrev pub MayTellSoFar : Bool → Bool → Device → List ℕ → Type 0
MayTellSoFar so_far explains input text = IfSome input.before (λ bytes. (cause : List ℕ) × (status : ℕ) × TellsSoFar so_far explains bytes cause status text)

-- A verdict is printed, with its status, on a trace that may be cut short, and the cause is which line isn't whole; or the first bad line
-- is told, with status 1 and no output.
abbrev pub HasVerdictSoFar : Bool → Bool → List ℕ → ℕ → Streams → Type 0
HasVerdictSoFar so_far explains cause status s = IfSome s.input.before (λ input.
    (IsPrinted (TellsSoFar so_far explains input cause status) s.output × Stays s.errors) ⊎ ((status ≡ 1) × TellsFault (IsBadTraceLine input) s.errors × Stays s.output))

-- `xds check` of a trace that is read whole
abbrev pub RunsSoFar : Bool → Bool → List ℕ → ℕ → Streams → Type 0
RunsSoFar so_far explains cause status s =
    HasVerdictSoFar so_far explains cause status s ⊎ IsUnable (MayTellSoFar so_far explains s.input) status s

-- one of two ways to run
abbrev pub RunsBy : Bool → (ℕ → Streams → Type 0) → (ℕ → Streams → Type 0) → ℕ → Streams → Type 0
RunsBy true First Second status s = First status s
RunsBy false First Second status s = Second status s

-- `xds check` of a trace that is read whole, where it may be cut short, or is explained or drawn; and else as it comes
abbrev pub RunsWanted : Bool → Bool → Bool → List ℕ → ℕ → Streams → Type 0
RunsWanted so_far explains draws cause status s = RunsBy (so_far || explains || draws) (RunsSoFar so_far explains cause) RunsCheck status s

abbrev pub RunsChecked : Checks → List ℕ → ℕ → Streams → Type 0
RunsChecked task cause status s = RunsWanted task.so_far task.explain (is_some task.picture) cause status s

-- a device goes through one state between two others
pub record AreJoined (first last whole : Device) : Type 0 where
  pub before : first.before ≡ whole.before
  pub between : first.after ≡ last.before
  pub after : last.after ≡ whole.after
  pub failed_before : first.failed_before ≡ whole.failed_before
  pub failed_between : first.failed_after ≡ last.failed_before
  pub failed_after : last.failed_after ≡ whole.failed_after

-- the line of a cause: behind an empty one, where it is a note on what is no fault
abbrev pub cause_line : Bool → List ℕ → List ℕ
cause_line is_note cause = if is_note then 10 ∷ plain_line cause else plain_line cause

-- a cause is told in one line, if there is one, and memory for it
abbrev pub TellsCause : Bool → List ℕ → Device → Type 0
TellsCause is_note [] errors = Stays errors
TellsCause is_note (b ∷ bs) errors = Stays errors ⊎ Tells errors (cause_line is_note (b ∷ bs))

-- What is told of a run, and behind it what is wrong in words, in one line at most.
pub record TellsBehind (Ends : List ℕ → ℕ → Streams → Type 0) (status : ℕ) (s : Streams) : Type 0 where
  pub cause : List ℕ
  pub first : Device
  pub last : Device
  pub joined : AreJoined first last s.errors
  pub ends : Ends cause status (record { input = s.input; output = s.output; errors = first })
  pub is_note : Bool
  pub told : TellsCause is_note cause last

-- the device is as it was, and none of its calls failed
abbrev pub IsSame : Device → Type 0
IsSame d = (d.after ≡ d.before) × (d.failed_after ≡ d.failed_before)

-- nothing is read, and nothing is written
abbrev pub IsUntouched : Streams → Type 0
IsUntouched s = IsSame s.input × IsSame s.output × IsSame s.errors

-- the task is done, with this status, and has its outcome
abbrev pub IsDone : (ℕ → Streams → Type 0) → Ran → Streams → Type 0
IsDone Ends ran s = (status : ℕ) × (ran ≡ Done status) × Ends status s

-- a run is done but for its picture, which is for this file
abbrev pub IsDrawn : Option (List ℕ) → (ℕ → Streams → Type 0) → Ran → Streams → Type 0
IsDrawn file Ends ran s = (d : Drawing) × (ran ≡ rans.Drawn d) × (file ≡ Some d.file) × Ends d.status s

-- a run is done, or done but for its picture
abbrev pub Draws : Option (List ℕ) → (ℕ → Streams → Type 0) → Ran → Streams → Type 0
Draws file Ends ran s = IsDone Ends ran s ⊎ IsDrawn file Ends ran s

-- a task is handed to the caller, untouched
abbrev pub IsHanded : Ran → Ran → Streams → Type 0
IsHanded handed ran s = (ran ≡ handed) × IsUntouched s

-- what becomes of a task: `xds answer`, `xds play` and `xds check` are done; one that needs a network or a file is
-- handed to the caller
abbrev pub Runs : Task → Ran → Streams → Type 0
Runs (Answer replica) ran s = IsDone (TellsBehind (λ cause. RunsAnswer replica)) ran s
Runs (Play task) ran s = Draws task.picture (TellsBehind (λ cause. RunsPlay task.trace)) ran s
Runs (Check task) ran s = Draws task.picture (TellsBehind (RunsChecked task)) ran s
Runs (Serve task) ran s = IsHanded (rans.Serve task) ran s
Runs (Client task) ran s = IsHanded (rans.Client task) ran s
Runs (Poll task) ran s = IsHanded (rans.Poll task) ran s
Runs (Writes task) ran s = IsHanded (rans.Writes task) ran s
Runs (Status task) ran s = IsHanded (rans.Status task) ran s
Runs (Get task) ran s = IsHanded (rans.Get task) ran s
Runs (Put task) ran s = IsHanded (rans.Put task) ran s
Runs (Delete task) ran s = IsHanded (rans.Delete task) ran s

-- the words call for help, or for the version
abbrev pub IsCall : ErrorKind → Type 0
IsCall kind = (kind ≡ DisplayHelp) ⊎ (kind ≡ DisplayVersion)

-- Help goes to the output, with status 0; what is wrong with the words is told on the error output, with status 2. The
-- texts are `clap`'s.
abbrev pub IsShown : ErrorKind → ℕ → Device → Device → Type 0
IsShown kind status output errors =
    (IsCall kind × (status ≡ 0) × ((text : List ℕ) × Wrote output text) × Stays errors)
    ⊎ ((IsCall kind → ⊥) × (status ≡ 2) × ((text : List ℕ) × Tells errors text) × Stays output)

-- no task is asked for
abbrev pub AsksNone : List Text → Type 0
AsksNone words = (task : Task) → Asks words task → ⊥

-- The words ask for no task: they call for help, or they are wrong. The input isn't read.
pub record IsAside (words : List Text) (status : ℕ) (s : Streams) : Type 0 where
  pub kind : ErrorKind
  pub is_fault : IsFaultOf words kind
  pub asks_none : AsksNone words
  pub unread : Stays s.input
  pub shown : IsShown kind status s.output s.errors

-- A run whose words ask for a task does it, or tells the line that is refused, or hands it to the caller; other words get help,
-- or are told to be wrong; and any run may be unable to go on. A text that no task calls for is begun only where none is asked for.
abbrev pub HasRun : List Text → Ran → Streams → Type 0
HasRun words ran s = ((task : Task) × Asks words task × Runs task ran s)
    ⊎ IsDone (λ status s. IsAside words status s ⊎ IsUnable (λ text. AsksNone words) status s) ran s
