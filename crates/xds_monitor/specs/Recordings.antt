-- How a replica's trace is recorded. This project's own.
--     next_after       the number of the record that comes behind so many
--     ended_by         how something ended: what it ended by first stays
--     tape_fault_text  what is told of why a file can't be made
--     tape_path        the file of a replica's trace
--     tape_line        the line of a file that can't be made
--     recorded_text    what is shown of a recording: that it goes on, or the refusal by which it ended
--     ended_sample     the line of whether a replica's recording ended by a refusal
--     recordings_text  that line of each of some replicas, and what the number is and does
--     running_sample   the line of whether the trace of a replica is being recorded
--     running_text     that line of each of some replicas, behind what the number is and does
use Rattle.std.specs.Prelude.{ℕ, Bool, if◌then◌else◌, ◌+◌, ◌-◌, ◌^◌, List, ◌++◌, Option, Some, None, codes, decimal, min}
use Rattle.std.specs.List.{flat_map}
use Rattle.xds_resource.specs.declared.refusal.Refusal.{Refusal}
use Rattle.xds_resource.specs.Refusals.{number_of, name_of}
use Rattle.xds_stats.specs.declared.metrics.MetricKind.TheVariants.{Counter, Gauge}
use Rattle.xds_stats.specs.Metrics.{help_line, sample_line}
use Rattle.xds_monitor.specs.declared.tapes.TapeFault.{TapeFault}
use Rattle.xds_monitor.specs.declared.tapes.TapeFault.TheVariants.{NoFolder, NotAllowed, IsThere, Other}

-- rule: cuts
-- the number of the record that comes behind so many from this one on, as far as such numbers go
abbrev pub next_after : ℕ → ℕ → ℕ
next_after number count = min (number + count) (2 ^ 64 - 1)

-- how something ended: what it ended by first stays
abbrev pub ended_by : {X : Type 0} → Option X → X → Option X
ended_by None end = Some end
ended_by (Some first) end = Some first

-- what is told of why a file can't be made
abbrev pub tape_fault_text : TapeFault → List ℕ
tape_fault_text NoFolder = codes ": no such folder"
tape_fault_text NotAllowed = codes ": not allowed"
tape_fault_text IsThere = codes ": it is there already"
tape_fault_text Other = codes ""

-- the file of a replica's trace
abbrev pub tape_path : List ℕ → ℕ → List ℕ
tape_path folder replica = folder ++ (codes "/replica-" ++ (decimal replica ++ codes ".trace"))

-- the line of a file that can't be made
abbrev pub tape_line : List ℕ → ℕ → TapeFault → List ℕ
tape_line folder replica fault = tape_path folder replica ++ (codes ": 19 Device" ++ (tape_fault_text fault ++ codes "\n"))

-- what is shown of a recording, as a field of JSON: that it goes on, or the refusal by which it ended
abbrev pub recorded_text : Option Refusal → List ℕ
recorded_text None = codes "\"recording\":\"goes on\","
recorded_text (Some refusal) =
    codes "\"recording\":\"" ++ (decimal (number_of refusal) ++ (codes " " ++ (name_of refusal ++ codes "\",")))

-- the line of whether the recording of a replica of this number ended by a refusal
abbrev pub ended_sample : ℕ × Bool → List ℕ
ended_sample shown =
    sample_line (codes "xds_recordings_ended_total") (codes "replica=\"" ++ (decimal shown.0 ++ codes "\"")) (if shown.1 then 1 else 0)

-- the same of each of some replicas, behind what that number is and does
abbrev pub recordings_text : List (ℕ × Bool) → List ℕ
recordings_text shown = help_line (codes "xds_recordings_ended_total") (codes "Recordings that ended by a refusal.") Counter ++ flat_map ended_sample shown

-- the line of whether the trace of a replica of this number is being recorded
abbrev pub running_sample : ℕ × Bool → List ℕ
running_sample shown = sample_line (codes "xds_recording") (codes "replica=\"" ++ (decimal shown.0 ++ codes "\"")) (if shown.1 then 1 else 0)

-- the same of each of some replicas, behind what that number is and does
abbrev pub running_text : List (ℕ × Bool) → List ℕ
running_text shown = help_line (codes "xds_recording") (codes "Whether the trace of the replica is being recorded.") Gauge ++ flat_map running_sample shown
