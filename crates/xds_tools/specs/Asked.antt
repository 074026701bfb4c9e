-- What is shown of an answer of an operator's port. This project's own.
--     text_shown   what is shown of an answer of this status that only has a body where it is 200
--     shown_of     what is shown of an answer of this status, whose body is empty or isn't
--     TellsLast    a line is told, and the status is 1
--     TellsWhy     an answer is told by its status, with what its body says, or that there was no memory for that
--     ShowsBy      what is shown of an answer of this status and body
--     Shows        the same by what is asked for
--     most_answer  as many bytes of an answer as are taken
--     look_seconds, change_seconds   as many seconds as an answer has
--     IsRequest    a request of this method at this target, with this body, which says no token, and has so many seconds
use Rattle.std.specs.Prelude.{◌≡◌, ◌⊎◌, ℕ, ◌*◌, min, List, length, ◌==◌, ◌&&◌, ◌||◌, Bool, None, if◌then◌else◌}
use Rattle.std.specs.Str.{trim}
use Rattle.std.specs.Duration.{as_nanos}
use Rattle.xds_frames.specs.Devices.{Device, Stays}
use Rattle.xds_resource.specs.declared.refusal.Refusal.TheVariants.{NotFound, OutOfMemory}
use Rattle.xds_machine.specs.declared.port_client.PortRequest.{PortRequest}
use Rattle.xds_notes.specs.Endings.{TellsLine, refusal_line}
use Rattle.xds_program.specs.Outcomes.{Prints}
use Rattle.xds_stats.specs.Logging.{excerpt}
use Rattle.xds_telling.specs.Messages.{refused_by_line, why_refused}
use Rattle.xds_tools.specs.declared.asking.AskedOfPort.{AskedOfPort}
use Rattle.xds_tools.specs.declared.asking.AskedOfPort.TheVariants.{Text, Resources, Changes}
use Rattle.xds_tools.specs.declared.asking.Shown.{Shown}
use Rattle.xds_tools.specs.declared.asking.Shown.TheVariants.{Body, Nothing, Refused}

-- what is shown of an answer of this status that only has a body where it is 200
abbrev pub text_shown : ℕ → Shown
text_shown status = if status == 200 then Body 0 else Refused

-- what is shown of an answer of this status, whose body is empty or isn't; of changes the body also where some are refused (207), all are
-- (422), or none is stored (507)
abbrev pub shown_of : AskedOfPort → ℕ → Bool → Shown
shown_of Text status is_empty = text_shown status
shown_of Resources status is_empty = if (status == 200) && is_empty then Nothing else text_shown status
shown_of Changes status is_empty = if (status == 207) || (status == 422) || (status == 507) then Body 1 else text_shown status

-- a line is told, or that there was no memory for it, and the status is 1
abbrev pub TellsLast : List ℕ → ℕ → Device → Type 0
TellsLast line status errors = TellsLine line errors × (status ≡ 1)

-- an answer is told by its status, with what its body says, or that there was no memory for that
abbrev pub TellsWhy : ℕ → List ℕ → ℕ → Device → Type 0
TellsWhy answered body status errors =
    TellsLast (refused_by_line answered (why_refused answered (excerpt (trim body)))) status errors ⊎ TellsLast (refusal_line OutOfMemory) status errors

-- what is shown of an answer of this status and body
abbrev pub ShowsBy : Shown → ℕ → List ℕ → ℕ → Device → Device → Type 0
ShowsBy (Body wanted) answered body status output errors = Prints body (min wanted 1) status output errors
ShowsBy Nothing answered body status output errors = Stays output × TellsLast (refusal_line NotFound) status errors
ShowsBy Refused answered body status output errors = Stays output × TellsWhy answered body status errors

-- the same by what is asked for
abbrev pub Shows : AskedOfPort → ℕ → List ℕ → ℕ → Device → Device → Type 0
Shows asked answered body status output errors = ShowsBy (shown_of asked answered (length body == 0)) answered body status output errors

-- as many bytes of an answer as are taken
abbrev pub most_answer : ℕ
most_answer = 1073741824

-- as many seconds as an answer has to a request that changes nothing, and to one that makes changes
abbrev pub look_seconds : ℕ
look_seconds = 10

abbrev pub change_seconds : ℕ
change_seconds = 660

-- a request of this method at this target, with this body, which says no token, and has so many seconds
abbrev pub IsRequest : List ℕ → List ℕ → List ℕ → ℕ → PortRequest → Type 0
IsRequest method target body seconds r =
    (r.method.now ≡ method) × (r.target.now ≡ target) × (r.bearer ≡ None) × (r.body.now ≡ body) × (as_nanos r.time ≡ seconds * 1000000000) × (r.most ≡ most_answer)
