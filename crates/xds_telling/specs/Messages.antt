-- What a server writes of its ports on its error output. This project's own.
--     port_fault_text  what is told of why a port can't be bound
--     port_line        the line of a port that can't be bound
--     admin_line       the line of an operator's port
--     replica_line     the line of a replica: its place among those of the server, its number, and its ports
--     same_numbers_line  what is told where replicas have the numbers of every run in which none was said, from this one on
--     old_numbers_line   what is told where replicas would have numbers that are not above those of the writes of a file
--     file_line        the line of a file that can't be opened
--     no_token_line    the line of a file that has no token
--     unloaded_line    the line of a file that isn't loaded, by one of its lines or by what else was refused
--     unsayable_line   the line of a name that can't stand in a line of changes
--     why_refused      why a question is refused by a status of HTTP, with what is said of it
--     refused_by_line  the line of a status of HTTP by which a question is refused, with why, if that is said
use Rattle.std.specs.Prelude.{ℕ, ◌==◌, ◌&&◌, ◌||◌, List, length, if◌then◌else◌, ◌++◌, Option, Some, None, codes, decimal}
use Rattle.xds_resource.specs.declared.refusal.Refusal.{Refusal}
use Rattle.xds_resource.specs.Refusals.{number_of, name_of}
use Rattle.xds_stats.specs.Logging.{number_text}
use Rattle.xds_machine.specs.declared.files.FileFault.{FileFault}
use Rattle.xds_machine.specs.Files.{file_fault_text}
use Rattle.xds_telling.specs.declared.serve_telling.PortFault.{PortFault}
use Rattle.xds_telling.specs.declared.serve_telling.PortFault.TheVariants.{InUse, NotAllowed, Other}

-- what is told of why a port can't be bound
abbrev pub port_fault_text : PortFault → List ℕ
port_fault_text InUse = codes ": in use"
port_fault_text NotAllowed = codes ": not allowed"
port_fault_text Other = codes ""

-- the line of a port that can't be bound
abbrev pub port_line : ℕ → PortFault → List ℕ
port_line port fault = codes "127.0.0.1:" ++ (decimal port ++ (codes ": 19 Device" ++ (port_fault_text fault ++ codes "\n")))

-- the line of an operator's port
abbrev pub admin_line : ℕ → List ℕ
admin_line port = codes "an operator's port on 127.0.0.1:" ++ (decimal port ++ codes "\n")

-- the line of a replica: its place among those of the server, its number, and its ports
abbrev pub replica_line : ℕ → ℕ → ℕ → ℕ → List ℕ
replica_line place number port rest_port =
    codes "replica " ++ (decimal place ++ (number_text place number ++ (codes ": streams on 127.0.0.1:" ++ (decimal port ++ (codes ", REST on 127.0.0.1:" ++ (decimal rest_port ++ codes "\n"))))))

-- rule: new-numbers
-- what is told of a server whose replicas have the numbers of every run in which none was said
abbrev pub same_numbers_line : ℕ → List ℕ
same_numbers_line first =
    codes "numbers begin at " ++ (decimal first ++ codes " again: a client of an earlier run may keep what is no longer so; --store or --first-number keeps runs apart\n")

-- rule: new-numbers
-- what is told where replicas would have numbers that are not above those of the writes of a file
abbrev pub old_numbers_line : List ℕ → List ℕ
old_numbers_line file = file ++ codes ": its writes have the numbers of these replicas, or greater ones: --first-number has to be above them\n"

-- the line of a file that can't be opened
abbrev pub file_line : List ℕ → FileFault → List ℕ
file_line file fault = file ++ (codes ": 19 Device" ++ (file_fault_text fault ++ codes "\n"))

-- the line of a file that has no token
abbrev pub no_token_line : List ℕ → List ℕ
no_token_line file = file ++ codes ": its first line is to be a token\n"

-- rule: loaded-first
-- the line of a file that isn't loaded, by one of its lines or by what else was refused
abbrev pub unloaded_line : List ℕ → Option ℕ → Refusal → List ℕ
unloaded_line file (Some line) refusal = file ++ (codes ": line " ++ (decimal line ++ (codes ": " ++ (decimal (number_of refusal) ++ (codes " " ++ (name_of refusal ++ codes "\n"))))))
unloaded_line file None refusal = file ++ (codes ": " ++ (decimal (number_of refusal) ++ (codes " " ++ (name_of refusal ++ codes "\n"))))

-- the line of a name that can't stand in a line of changes
abbrev pub unsayable_line : List ℕ
unsayable_line = codes "5 BadName: a name that is empty, or has a space or the end of a line in it, can't stand in a line of changes\n"

-- why a question is refused by a status of HTTP, with what is said of it
abbrev pub why_refused : ℕ → List ℕ → List ℕ
why_refused status said =
    if status == 401 then codes "--admin-token FILE says the token"
    else (if (status == 404) && (length said == 0) then codes "no operator's port of this version is there"
    else (if status == 413 then codes "more than 4,194,304 bytes of changes"
    else (if (status == 414) || (status == 431) then codes "the names are too long for one request" else said)))

-- the line of a status of HTTP by which a question is refused, with why, if that is said
abbrev pub refused_by_line : ℕ → List ℕ → List ℕ
refused_by_line status why = if length why == 0 then codes "the server answers " ++ (decimal status ++ codes "\n") else codes "the server answers " ++ (decimal status ++ (codes ": " ++ (why ++ codes "\n")))
