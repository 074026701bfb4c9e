-- What is told in words of the lines of scripts and of traces. This project's own.
--     is_space           a space
--     first_word         the text before the first space, or the whole text
--     behind             the text behind it, or none
--     misspelt_by        what is told of a resource by its `@type`, nothing where its type is known
--     misspelt_in        what is told so of a value, nothing where there is none
--     is_brace           an opening brace
--     from_brace         a text from its first opening brace on
--     misspelt           what is told so of the resource at the end of a line, nothing where there is none
--     change_text        what is told of a change, by its cause
--     unchanged_text     what is told of a line that is no change, by its first word
--     IsScriptTextTold   what is told of a text that is a bad line of a script
--     IsScriptTold       what is told of a bad line of a script
--     is_stream          whether a word is the number of a stream
--     not_stream_text    what is told of a word that isn't
--     kind_text          what is told of a word that is to be that of a type, nothing where it is
--     idle_text          what is told of what stands behind `idle`
--     message_of         the message that a number says, in a request or in a response
--     numbers_text       the numbers that say one
--     variant_text       what is told of a number that says none
--     IsOfMessageTold    what is told of JSON that is to be this message, if there is one
--     IsKindTold         what is told of a message of this number, spelled by JSON
--     IsSpokenTold       what is told of what stands behind `request` or `response`
--     IsBehindTold       what is told of what stands behind the first word of a trace's line
--     IsVerbTold         what is told of a line of this verb, if it is one
--     IsWordTold         what is told of a line of a trace by its first word
--     stream_text        what is told of a stream
--     order_text         what is told of a line that says something, and may not stand where it does
--     IsUnsaidTold       what is told of a line that says nothing
--     IsTraceTold        what is told of a bad line of a trace
use Rattle.std.specs.Prelude.{◌≡◌, ◌⊎◌, ◌==◌, ℕ, List, [], ◌++◌, drop, length, Bool, true, false, if◌then◌else◌, bytes_eq, Option, Some, None, is_some, codes, decimal, IsUtf8}
use Rattle.std.specs.Option.{option_and_then}
use Rattle.std.specs.List.{after_first, before_first, position_or_len}
use Rattle.serde_json.specs.Data.{Data}
use Rattle.serde_json.specs.Find.{as_str, get}
use Rattle.serde_json.specs.Read.{read}
use Rattle.xds_resource.specs.Types.{type_of_word}
use Rattle.xds_check.specs.declared.line.Line.{Line}
use Rattle.xds_check.specs.declared.line.Line.TheVariants as lines
use Rattle.xds_check.specs.declared.words.Verb.{Verb}
use Rattle.xds_check.specs.declared.words.Verb.TheVariants as verbs
use Rattle.xds_check.specs.Texts.{Says}
use Rattle.xds_check.specs.Words.{max_stream}
use Rattle.xds_check.specs.Words as traces
use Rattle.xds_script.specs.Commands as scripts
use Rattle.xds_script.specs.Words.{number_in}
use Rattle.xds_causes.specs.declared.cause.Cause.{Cause}
use Rattle.xds_causes.specs.declared.cause.Cause.TheVariants.{NoText, UnknownCommand, NoNumber, NoSuchReplica, UnknownType, WrongWords, Refused}
use Rattle.xds_causes.specs.declared.messages.Message.{Message}
use Rattle.xds_causes.specs.declared.messages.Message.TheVariants as messages
use Rattle.xds_causes.specs.Causes.{IsCauseOf, cause_text, is_verb}
use Rattle.xds_causes.specs.Told.{IsMessageTold, Text, quoted, type_text}

abbrev pub is_space : ℕ → Bool
is_space b = b == 32

-- the text before the first space, or the whole text
abbrev pub first_word : Text → Text
first_word text = before_first is_space text

-- the text behind it, or none
abbrev pub behind : Text → Text
behind text = after_first is_space text

-- ---- scripts

-- what is told of a resource by its `@type`, nothing where its type is known
abbrev pub misspelt_by : Option Text → Text
misspelt_by None = codes "there is no \"@type\": the type of the resource"
misspelt_by (Some url) = type_text url

abbrev pub misspelt_in : Option Data → Text
misspelt_in None = []
misspelt_in (Some d) = misspelt_by (option_and_then as_str (get (codes "@type") d))

abbrev pub is_brace : ℕ → Bool
is_brace b = b == 123

-- a text from its first opening brace on
abbrev pub from_brace : Text → Text
from_brace text = drop (position_or_len is_brace text) text

-- what is told so of the resource at the end of a line, nothing where there is none
abbrev pub misspelt : Text → Text
misspelt line = misspelt_in (read (from_brace line))

-- what is told of a change, by its cause
abbrev pub change_text : Text → Cause → Text
change_text line NoText = cause_text NoText
change_text line UnknownCommand = cause_text UnknownCommand
change_text line NoNumber = cause_text NoNumber
change_text line NoSuchReplica = cause_text NoSuchReplica
change_text line UnknownType = cause_text UnknownType
change_text line WrongWords = cause_text WrongWords
change_text line (Refused e) = if length (misspelt line) == 0 then cause_text (Refused e) else misspelt line

-- what is told of a line that is no change, by its first word
abbrev pub unchanged_text : Text → Text
unchanged_text word =
    if is_some (scripts.verb_of word) then codes "wrong words behind " ++ quoted word else quoted word ++ codes " is no command of a script"

-- what is told of a text that is a bad line of a script
abbrev pub IsScriptTextTold : Text → Text → Type 0
IsScriptTextTold line told =
    ((is_verb (first_word line) ≡ true) × ((c : Cause) × IsCauseOf line c × (told ≡ change_text line c)))
    ⊎ ((is_verb (first_word line) ≡ false) × (told ≡ unchanged_text (first_word line)))

-- what is told of a bad line of a script
abbrev pub IsScriptTold : Text → Text → Type 0
IsScriptTold line told = ((IsUtf8 line → ⊥) × (told ≡ codes "not UTF-8")) ⊎ (IsUtf8 line × IsScriptTextTold line told)

-- ---- traces

-- whether a word is the number of a stream
abbrev pub is_stream : Text → Bool
is_stream word = is_some (number_in 1 max_stream word)

-- what is told of a word that isn't
abbrev pub not_stream_text : Text → Text
not_stream_text word = quoted word ++ codes " isn't the number of a stream, from 1"

-- what is told of a word that is to be that of a type, nothing where it is
abbrev pub kind_text : Text → Text
kind_text word = if is_some (type_of_word word) then [] else quoted word ++ codes " is none of cluster, endpoint, listener, route and secret"

-- what is told of what stands behind `idle`
abbrev pub idle_text : Text → Text
idle_text rest = if is_stream (first_word rest) then kind_text (behind rest) else not_stream_text (first_word rest)

-- the message that a number says, in a request or in a response
abbrev pub message_of : Text → Bool → Option Message
message_of kind true =
    if bytes_eq kind (codes "1") then Some messages.Request else if bytes_eq kind (codes "3") then Some messages.DeltaRequest else None
message_of kind false =
    if bytes_eq kind (codes "2") then Some messages.Response else if bytes_eq kind (codes "4") then Some messages.DeltaResponse else None

-- what is told of a number that says none
abbrev pub numbers_text : Bool → Text
numbers_text true = codes "of a request: 1, or 3 of the delta variant"
numbers_text false = codes "of a response: 2, or 4 of the delta variant"

abbrev pub variant_text : Text → Bool → Text
variant_text kind is_request = quoted kind ++ codes " isn't the number " ++ numbers_text is_request

-- what is told of a message of this number, spelled by JSON
abbrev pub IsOfMessageTold : Text → Text → Bool → Option Message → Text → Type 0
IsOfMessageTold kind json is_request None told = told ≡ variant_text kind is_request
IsOfMessageTold kind json is_request (Some m) told = IsMessageTold json m told

abbrev pub IsKindTold : Text → Bool → Text → Type 0
IsKindTold rest is_request told = IsOfMessageTold (first_word rest) (behind rest) is_request (message_of (first_word rest) is_request) told

-- what is told of what stands behind `request` or `response`
abbrev pub IsSpokenTold : Text → Bool → Text → Type 0
IsSpokenTold rest is_request told =
    ((is_stream (first_word rest) ≡ false) × (told ≡ not_stream_text (first_word rest)))
    ⊎ ((is_stream (first_word rest) ≡ true) × IsKindTold (behind rest) is_request told)

-- what is told of what stands behind the first word of a trace's line
abbrev pub IsBehindTold : Verb → Text → Text → Type 0
IsBehindTold verbs.Write rest told = IsMessageTold rest messages.Write told
IsBehindTold verbs.Open rest told = told ≡ not_stream_text rest
IsBehindTold verbs.Close rest told = told ≡ not_stream_text rest
IsBehindTold verbs.Request rest told = IsSpokenTold rest true told
IsBehindTold verbs.Response rest told = IsSpokenTold rest false told
IsBehindTold verbs.Idle rest told = told ≡ idle_text rest

-- what is told of a line of a trace by its first word
abbrev pub IsVerbTold : Text → Text → Option Verb → Text → Type 0
IsVerbTold word rest None told = told ≡ quoted word ++ codes " is none of write, open, close, request, response and idle"
IsVerbTold word rest (Some v) told = IsBehindTold v rest told

abbrev pub IsWordTold : Text → Text → Type 0
IsWordTold line told = IsVerbTold (first_word line) (behind line) (traces.verb_of (first_word line)) told

-- what is told of a stream
abbrev pub stream_text : ℕ → Text → Text
stream_text s what = codes "stream " ++ decimal s ++ codes " " ++ what

-- what is told of a line that says something, and may not stand where it does
abbrev pub order_text : Line → Text
order_text (lines.Write w) = []
order_text (lines.Open s) = stream_text s (codes "was opened before")
order_text (lines.Close s) = stream_text s (codes "isn't open")
order_text (lines.Request s m) = stream_text s (codes "isn't open, or speaks the other variant of the protocol")
order_text (lines.Response s a) = stream_text s (codes "isn't open, or speaks the other variant of the protocol")
order_text (lines.Idle s t) = stream_text s (codes "isn't open")

-- what is told of a line that says nothing
abbrev pub IsUnsaidTold : Text → Text → Type 0
IsUnsaidTold line told = ((IsUtf8 line → ⊥) × (told ≡ codes "not UTF-8")) ⊎ (IsUtf8 line × IsWordTold line told)

-- what is told of a bad line of a trace
abbrev pub IsTraceTold : Text → Text → Type 0
IsTraceTold line told =
    ((l : Line) × Says line l × (told ≡ order_text l)) ⊎ (((l : Line) → Says line l → ⊥) × IsUnsaidTold line told)
