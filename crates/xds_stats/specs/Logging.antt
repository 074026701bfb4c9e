-- What an operator is told of a server that logs, a line each, in the form of the crate `log`. This project's own.
--     shown_char       what stands for a character of a text that a client sent
--     excerpt          the beginning of such a text, as it is shown
--     place_text       which stream of which replica
--     variant_word     the variant in a word
--     first_text       the first request of a stream
--     rejected_text    a response that a client rejected
--     ended_text       the end of a stream, by a refusal or without one
--     number_text      what is told of a replica's number, where it isn't its place
--     message_of       what is told of an event
--     end_level        how much the end of a stream matters
--     level_of         how much it matters
--     log_line         the line of a message
--     maker_word       by whom a change is made, in a word
--     event_line       the line of an event, at a moment
--     event_word       the event in a word
--     ended_fields     what is told of the end of a stream
--     json_level       a level in a word
--     reason_field     a refusal, as a member of an object behind others
--     first_fields     what is told of a first request, as members of an object behind others
--     rejected_fields  what is told of a rejection, as members of an object behind others
--     place_fields     which stream of which replica, as members of an object behind others
--     fields_of        what is told of an event, as members of an object behind others
--     json_line        the line of an event, at a moment, as an object of JSON
use Rattle.std.specs.Prelude.{ℕ, List, [], ◌++◌, ◌||◌, ◌&&◌, ◌==◌, Bool, if◌then◌else◌, nat_lt, nat_le, Option, Some, None, codes, decimal, encode_utf8, flat_map, string_bytes, take}
use Rattle.std.specs.Str.{chars}
use Rattle.log.specs.declared.level.Level.{Level}
use Rattle.log.specs.declared.level.Level.TheVariants.{Info, Warn, Error, Debug, Trace}
use Rattle.log.specs.Line.{header_text}
use Rattle.xds_resource.specs.declared.refusal.Refusal.{Refusal}
use Rattle.xds_resource.specs.Refusals.{number_of, name_of}
use Rattle.xds_resource.specs.Types.{row}
use Rattle.xds_stats.specs.declared.log_event.StreamPlace.{StreamPlace}
use Rattle.xds_stats.specs.declared.log_event.FirstRequest.{FirstRequest as First}
use Rattle.xds_stats.specs.declared.log_event.Rejection.{Rejection}
use Rattle.xds_stats.specs.declared.log_event.LogEvent.{LogEvent}
use Rattle.xds_stats.specs.declared.log_event.LogEvent.TheVariants.{Listening, Connected, FirstRequest, Rejected, Ended, TurnedAway, CutFailed, UnknownType, Changed, Stopping, Idle, Long}
use Rattle.xds_stats.specs.declared.log_event.Maker.{Maker}
use Rattle.xds_stats.specs.declared.log_event.Maker.TheVariants.{Input, Port, Folder}
use Rattle.xds_stats.specs.Statuses.{quoted}

-- what stands for a character of a text that a client sent: a question mark for one of control, for a quote, and for a backslash
abbrev pub shown_char : ℕ → ℕ
shown_char c = if nat_lt c 32 || c == 34 || c == 92 || (nat_le 127 c && nat_le c 159) then 63 else c

-- the beginning of such a text, as it is shown
abbrev pub excerpt : List ℕ → List ℕ
excerpt text = flat_map (λ c. encode_utf8 (shown_char c)) (take 256 (chars text))

-- which stream of which replica
abbrev pub place_text : StreamPlace → List ℕ
place_text place = codes "replica " ++ (decimal place.replica ++ (codes ", stream " ++ (decimal place.stream ++ codes ": ")))

abbrev pub variant_word : Bool → List ℕ
variant_word is_delta = if is_delta then codes "delta" else codes "sotw"

-- the first request of a stream
abbrev pub first_text : StreamPlace → First → List ℕ
first_text place first =
    place_text place ++ (codes "first request, node \"" ++ (string_bytes first.node ++ (codes "\", cluster \"" ++ (string_bytes first.cluster
    ++ (codes "\", " ++ (variant_word first.is_delta ++ (codes ", \"" ++ (string_bytes first.type_url ++ codes "\""))))))))

-- a response that a client rejected
abbrev pub rejected_text : StreamPlace → Rejection → List ℕ
rejected_text place rejection =
    place_text place ++ (codes "response \"" ++ (string_bytes rejection.nonce ++ (codes "\" of \"" ++ (string_bytes rejection.type_url
    ++ (codes "\" is rejected: \"" ++ (string_bytes rejection.message ++ codes "\""))))))

-- the end of a stream, by a refusal or without one
abbrev pub ended_text : StreamPlace → Option Refusal → List ℕ
ended_text place None = place_text place ++ codes "ended"
ended_text place (Some refusal) =
    (place_text place ++ codes "ended") ++ (codes " by " ++ (decimal (number_of refusal) ++ (codes " " ++ name_of refusal)))

-- what is told of a replica's number, where it isn't its place among those of the server
abbrev pub number_text : ℕ → ℕ → List ℕ
number_text place number = if place == number then [] else codes " (number " ++ (decimal number ++ codes ")")

-- by whom a change is made, in a word
abbrev pub maker_word : Maker → List ℕ
maker_word Input = codes "input"
maker_word Port = codes "port"
maker_word Folder = codes "folder"

-- what is told of an event
abbrev pub message_of : LogEvent → List ℕ
message_of (Listening replica number port rest_port) =
    codes "replica " ++ (decimal replica ++ (number_text replica number ++ (codes " listens: streams on 127.0.0.1:" ++ (decimal port ++ (codes ", REST on 127.0.0.1:" ++ decimal rest_port)))))
message_of (Connected place peer) = place_text place ++ codes "connected from " ++ string_bytes peer
message_of (FirstRequest place first) = first_text place first
message_of (Rejected place rejection) = rejected_text place rejection
message_of (Ended place refusal) = ended_text place refusal
message_of (TurnedAway replica) =
    codes "replica " ++ (decimal replica ++ codes ": a connection is closed, there are as many streams as there may be")
message_of (CutFailed replica refusal) =
    codes "replica " ++ (decimal replica ++ (codes ": the journal is not cut: " ++ (decimal (number_of refusal) ++ (codes " " ++ name_of refusal))))
message_of (UnknownType place type_url) = place_text place ++ (codes "asks for a type that isn't known: \"" ++ (string_bytes type_url ++ codes "\""))
message_of (Changed replica maker stamp) =
    codes "replica " ++ (decimal replica ++ (codes ": a change by the " ++ (maker_word maker ++ (codes " is " ++ (decimal stamp.counter ++ (codes "-" ++ decimal stamp.writer))))))
message_of Stopping = codes "stopping"
message_of (Idle place seconds) = place_text place ++ (codes "no first frame within " ++ (decimal seconds ++ codes " s"))
message_of (Long replica kind bytes) =
    codes "replica " ++ (decimal replica ++ (codes ": the whole response of " ++ ((row kind).word ++ (codes " has " ++ (decimal bytes ++ codes " bytes, and a frame has 16777215 at most")))))

abbrev pub end_level : Option Refusal → Level
end_level None = Info
end_level (Some refusal) = Warn

-- how much it matters
abbrev pub level_of : LogEvent → Level
level_of (Listening replica number port rest_port) = Info
level_of (Connected place peer) = Info
level_of (FirstRequest place first) = Info
level_of (Rejected place rejection) = Warn
level_of (Ended place refusal) = end_level refusal
level_of (TurnedAway replica) = Warn
level_of (CutFailed replica refusal) = Warn
level_of (UnknownType place type_url) = Warn
level_of (Changed replica maker stamp) = Info
level_of Stopping = Info
level_of (Idle place seconds) = Warn
level_of (Long replica kind bytes) = Warn

-- the line of a message
abbrev pub log_line : Level → List ℕ → List ℕ
log_line level message = (header_text level [] ++ message) ++ codes "\n"

-- the line of an event, at a moment
abbrev pub event_line : List ℕ → LogEvent → List ℕ
event_line time event = time ++ (codes " " ++ log_line (level_of event) (message_of event))

-- the event in a word
abbrev pub event_word : LogEvent → List ℕ
event_word (Listening replica number port rest_port) = codes "listening"
event_word (Connected place peer) = codes "connected"
event_word (FirstRequest place first) = codes "first request"
event_word (Rejected place rejection) = codes "rejected"
event_word (Ended place refusal) = codes "ended"
event_word (TurnedAway replica) = codes "turned away"
event_word (CutFailed replica refusal) = codes "not cut"
event_word (UnknownType place type_url) = codes "unknown type"
event_word (Changed replica maker stamp) = codes "changed"
event_word Stopping = codes "stopping"
event_word (Idle place seconds) = codes "idle"
event_word (Long replica kind bytes) = codes "long response"

-- which stream of which replica, as members of an object behind others
abbrev pub place_fields : StreamPlace → List ℕ
place_fields place = codes ",\"replica\":" ++ (decimal place.replica ++ (codes ",\"stream\":" ++ decimal place.stream))

-- a refusal, as a member of an object behind others
abbrev pub reason_field : Refusal → List ℕ
reason_field refusal = codes ",\"reason\":\"" ++ (decimal (number_of refusal) ++ (codes " " ++ (name_of refusal ++ codes "\"")))

-- what is told of the end of a stream
abbrev pub ended_fields : StreamPlace → Option Refusal → List ℕ
ended_fields place None = place_fields place
ended_fields place (Some refusal) = place_fields place ++ reason_field refusal

abbrev pub first_fields : StreamPlace → First → List ℕ
first_fields place first =
    place_fields place ++ (codes ",\"node\":" ++ (quoted (string_bytes first.node) ++ (codes ",\"cluster\":" ++ (quoted (string_bytes first.cluster)
    ++ (codes ",\"variant\":\"" ++ (variant_word first.is_delta ++ (codes "\",\"type\":" ++ quoted (string_bytes first.type_url))))))))

abbrev pub rejected_fields : StreamPlace → Rejection → List ℕ
rejected_fields place rejection =
    place_fields place ++ (codes ",\"type\":" ++ (quoted (string_bytes rejection.type_url) ++ (codes ",\"nonce\":" ++ (quoted (string_bytes rejection.nonce)
    ++ (codes ",\"reason\":" ++ quoted (string_bytes rejection.message))))))

-- what is told of it, as members of an object behind others
abbrev pub fields_of : LogEvent → List ℕ
fields_of (Listening replica number port rest_port) =
    codes ",\"replica\":" ++ (decimal replica ++ (codes ",\"number\":" ++ (decimal number ++ (codes ",\"port\":" ++ (decimal port ++ (codes ",\"rest_port\":" ++ decimal rest_port))))))
fields_of (Connected place peer) = place_fields place ++ (codes ",\"peer\":" ++ quoted (string_bytes peer))
fields_of (FirstRequest place first) = first_fields place first
fields_of (Rejected place rejection) = rejected_fields place rejection
fields_of (Ended place refusal) = ended_fields place refusal
fields_of (TurnedAway replica) = codes ",\"replica\":" ++ decimal replica
fields_of (CutFailed replica refusal) = codes ",\"replica\":" ++ (decimal replica ++ reason_field refusal)
fields_of (UnknownType place type_url) = place_fields place ++ (codes ",\"type\":" ++ quoted (string_bytes type_url))
fields_of (Changed replica maker stamp) =
    codes ",\"replica\":" ++ (decimal replica ++ (codes ",\"by\":\"" ++ (maker_word maker ++ (codes "\",\"version\":\"" ++ (decimal stamp.counter ++ (codes "-" ++ (decimal stamp.writer ++ codes "\"")))))))
fields_of Stopping = []
fields_of (Idle place seconds) = place_fields place ++ (codes ",\"seconds\":" ++ decimal seconds)
fields_of (Long replica kind bytes) =
    codes ",\"replica\":" ++ (decimal replica ++ (codes ",\"type\":\"" ++ ((row kind).word ++ (codes "\",\"bytes\":" ++ (decimal bytes ++ codes ",\"limit\":16777215")))))

-- a level in a word
abbrev pub json_level : Level → List ℕ
json_level Info = codes "INFO"
json_level Warn = codes "WARN"
json_level Error = codes "ERROR"
json_level Debug = codes "DEBUG"
json_level Trace = codes "TRACE"

-- the line of an event, at a moment, as an object of JSON
abbrev pub json_line : List ℕ → LogEvent → List ℕ
json_line time event =
    codes "{\"time\":\"" ++ (time ++ (codes "\",\"level\":\"" ++ (json_level (level_of event) ++ (codes "\",\"event\":\"" ++ (event_word event
    ++ (codes "\"" ++ (fields_of event ++ codes "}\n")))))))
