-- What becomes of a resource of which a checker is asked. This project's own.
--     is_taken       whether it is taken: one that is good, and, where that is wanted, one of which nothing is said
--     asked_text     what a checker is asked of what happens: the text of the resource that is put
--     CheckerAnswer  what is told of a resource: what a checker says, or why it isn't known
--     refusal_by     why a resource isn't taken of which this is said
--     judged         the same of what is told, where it isn't taken
--     IsChecked      why a change isn't made, if it isn't, by what may be told of its resource
--     HandsJudged    a change is handed on that isn't refused; a refused one ends all, unless refused lines are kept
--     HandsChecked   a change is handed on, as a checker says, and none behind the end
--     why_after      what is told of why a line isn't made: the last of what was kept of it, behind what was found
--     told_by        the line of a line that is refused, with what is told of why, if something is
--     told_line      the same by all that was kept of such lines
--     why_line       the line of a line that isn't made, without its end, where this is told of why
--     unchecked_line   the same, where something is told of why
--     bare_line      the same where nothing is
--     whole_line     the same, or without why
--     told_absent    what is told where a checker has no answer
--     one_more       one more of what is counted
--     absence_by     why a checker is away of which this is said, if it is
--     counted        what is counted once this was said of a resource
--     has_turned     whether a checker that was away, if it was, has gone away since, or is back
--     known_after    what is known of a checker once this was told of a resource
--     counted_text   how many resources were good, bad, and not looked at, in the text format of Prometheus
use Rattle.std.specs.Prelude.{◌≡◌, ℕ, ◌+◌, ◌^◌, ◌-◌, min, ◌==◌, List, [], ◌∷◌, ◌++◌, Bool, true, false, not, ◌||◌, if◌then◌else◌, Option, Some, None, Result, Ok, Err, option_map, codes, decimal}
use Rattle.xds_resource.specs.declared.refusal.Refusal.{Refusal}
use Rattle.xds_resource.specs.declared.refusal.Refusal.TheVariants.{BadResource, Device, OutOfMemory}
use Rattle.xds_resource.specs.Refusals.{number_of, name_of}
use Rattle.xds_core.specs.Events.{Event, Put}
use Rattle.xds_changes.specs.Changes.{Written}
use Rattle.xds_notes.specs.declared.fault.Fault.{Fault}
use Rattle.xds_notes.specs.Notes.{refused_line}
use Rattle.xds_machine.specs.declared.port_client.Unanswered.{Unanswered}
use Rattle.xds_machine.specs.declared.port_client.Unanswered.TheVariants as unanswered
use Rattle.xds_port.specs.declared.verdict.Absence.{Absence}
use Rattle.xds_port.specs.declared.verdict.Absence.TheVariants.{Unreachable, Silent, Broken}
use Rattle.xds_port.specs.declared.verdict.Verdict.{Verdict}
use Rattle.xds_port.specs.declared.verdict.Verdict.TheVariants.{Good, Bad, Away}
use Rattle.xds_checker.specs.declared.checker.CheckerRecord.{CheckerRecord}

-- whether it is taken: one that is good, and, where that is wanted, one of which nothing is said
abbrev pub is_taken : Verdict → Bool → Bool
is_taken Good passes = true
is_taken (Bad complaint) passes = false
is_taken (Away absence) passes = passes

-- how many resources were good, bad, and not looked at, in the text format of Prometheus
abbrev pub counted_text : ℕ → ℕ → ℕ → List ℕ
counted_text good bad away =
    codes "# HELP xds_checks_total Resources of which a checker was asked.\n# TYPE xds_checks_total counter\nxds_checks_total{verdict=\"good\"} "
    ++ (decimal good ++ (codes "\nxds_checks_total{verdict=\"bad\"} " ++ (decimal bad ++ (codes "\nxds_checks_total{verdict=\"away\"} " ++ (decimal away ++ codes "\n")))))

-- what a checker is asked of what happens: the text of the resource that is put; of a deletion nothing
abbrev pub asked_text : Event → Option (List ℕ)
asked_text (Put kind named groups) = Some named.body
asked_text event = None

-- what is told of a resource: what a checker says, or why it isn't known
abbrev pub CheckerAnswer : Type 0
CheckerAnswer = Result Verdict Refusal

-- why a resource isn't taken of which this is said
abbrev pub refusal_by : Verdict → Refusal
refusal_by Good = Device
refusal_by (Bad complaint) = BadResource
refusal_by (Away absence) = Device

-- the same of what is told, where it isn't taken
abbrev pub judged : CheckerAnswer → Bool → Option Refusal
judged (Ok verdict) passes = if is_taken verdict passes then None else Some (refusal_by verdict)
judged (Err refusal) passes = Some refusal

-- Why a change isn't made, if it isn't, by what may be told of its resource: what is asked of it is its text, and of a deletion nothing is asked.
abbrev pub IsChecked : (List ℕ → CheckerAnswer → Type 0) → Bool → Option (List ℕ) → Option Refusal → Type 0
IsChecked tells passes None o = o ≡ None
IsChecked tells passes (Some text) o = (told : CheckerAnswer) × tells text told × (o ≡ judged told passes)

-- A change is handed on that isn't refused. A refused one ends all, unless refused lines are kept.
abbrev pub HandsJudged : {H : Type 0} → (H → H → Written → Type 0) → Bool → Bool → H → H → Written → Option Refusal → Type 0
HandsJudged hands keeps over s t w None = hands s t w × (over ≡ false)
HandsJudged hands keeps over s t w (Some refusal) = (t ≡ s) × (over ≡ not keeps)

-- A change is handed on, as a checker says, and none behind the end.
abbrev pub HandsChecked : {H : Type 0} → (H → H → Written → Type 0) → (List ℕ → CheckerAnswer → Type 0) → Bool → Bool → Bool → Bool → H → H → Written → Type 0
HandsChecked hands tells passes keeps true over s t w = (t ≡ s) × (over ≡ true)
HandsChecked hands tells passes keeps false over s t w = (o : Option Refusal) × IsChecked tells passes (asked_text w.1) o × HandsJudged hands keeps over s t w o

-- what is told of why a line isn't made: the last of what was kept of it, behind what was found
abbrev pub why_after : Option (List ℕ) → List (ℕ × List ℕ) → ℕ → Option (List ℕ)
why_after found [] line = found
why_after found (w ∷ ws) line = why_after (if w.0 == line then Some w.1 else found) ws line

-- the line of a line that is refused, with what is told of why, if something is
abbrev pub told_by : Option (List ℕ) → ℕ → Fault → List ℕ
told_by None line fault = refused_line line fault
told_by (Some why) line fault = why ++ codes "\n"

-- the same by all that was kept of such lines
abbrev pub told_line : List (ℕ × List ℕ) → ℕ → Fault → List ℕ
told_line whys line fault = told_by (why_after None whys line) line fault

-- the line of a line that isn't made, without its end, where something is told of why
abbrev pub why_line : ℕ → Refusal → List ℕ → List ℕ
why_line line refusal why =
    codes "line " ++ (decimal line ++ (codes ": " ++ (decimal (number_of refusal) ++ (codes " " ++ (name_of refusal ++ (codes ": " ++ why))))))

abbrev pub unchecked_line : ℕ → Refusal → Option (List ℕ) → Option (List ℕ)
unchecked_line line refusal why = option_map (why_line line refusal) why

-- the same, or without why
abbrev pub bare_line : ℕ → Refusal → List ℕ
bare_line line refusal = codes "line " ++ (decimal line ++ (codes ": " ++ (decimal (number_of refusal) ++ (codes " " ++ name_of refusal))))

abbrev pub whole_line : ℕ → Refusal → Option (List ℕ) → List ℕ
whole_line line refusal None = bare_line line refusal
whole_line line refusal (Some why) = why_line line refusal why

-- what is told where a checker has no answer: it is away, but where there is no memory
abbrev pub told_absent : Unanswered → CheckerAnswer
told_absent unanswered.NoMemory = Err OutOfMemory
told_absent unanswered.Unreachable = Ok (Away Unreachable)
told_absent unanswered.Late = Ok (Away Silent)
told_absent unanswered.Broken = Ok (Away Broken)
told_absent unanswered.TooLong = Ok (Away Broken)

-- one more of what is counted
abbrev pub one_more : ℕ → ℕ
one_more n = min (n + 1) (2 ^ 64 - 1)

-- why a checker is away of which this is said, if it is
abbrev pub absence_by : Verdict → Option Absence
absence_by Good = None
absence_by (Bad complaint) = None
absence_by (Away absence) = Some absence

-- what is counted once this was said of a resource
abbrev pub counted : CheckerRecord → Verdict → CheckerRecord
counted known Good = record known { good = one_more known.good }
counted known (Bad complaint) = record known { bad = one_more known.bad }
counted known (Away absence) = record known { away = one_more known.away }

-- whether a checker that was away, if it was, has gone away since, or is back
abbrev pub has_turned : Option Absence → Option Absence → Bool
has_turned None None = false
has_turned None (Some absence) = true
has_turned (Some before) None = true
has_turned (Some before) (Some absence) = false

-- What is known of a checker once this was said of a resource: it is to be told where it has gone away, or is back.
abbrev pub known_after : CheckerRecord → Verdict → CheckerRecord
known_after known verdict = record (counted known verdict) {
  absence = absence_by verdict;
  is_untold = has_turned known.absence (absence_by verdict) || known.is_untold;
}
