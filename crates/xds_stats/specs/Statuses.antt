-- What is shown of a stream, as JSON. This project's own.
--     quoted         a text as JSON
--     variant_word   the variant in a word; an empty one before the first request
--     state_json     how a stream stands of a type, and since when, as members of an object
--     told_json      what a type was told last, and accepted last, as members of an object
--     rejected_json  what is shown of a rejection, as members of an object
--     type_json      what is shown of a type
--     with_comma     a list of members with a comma behind it, if there is one
--     types_json     the same behind what is shown of other types, if the stream asked for the type
--     client_json    what is shown of a stream's client, as members of an object
--     stream_json    what is shown of a stream, whose types are shown so
use Rattle.std.specs.Prelude.{ℕ, List, [], ◌++◌, ◌==◌, length, Option, Some, None, codes, decimal, if◌then◌else◌, string_bytes}
use Rattle.serde_json.specs.Data.{string}
use Rattle.serde_json.specs.Written.{compact_text}
use Rattle.xds_resource.specs.declared.types.TypeName.{TypeName}
use Rattle.xds_resource.specs.Types.{row}
use Rattle.xds_ledger.specs.declared.variant.VariantName.{VariantName}
use Rattle.xds_ledger.specs.declared.variant.VariantName.TheVariants.{StateOfTheWorld, Delta}
use Rattle.xds_stats.specs.declared.stream_status.StreamStatus.{StreamStatus}
use Rattle.xds_stats.specs.declared.stream_status.TypeStatus.{TypeStatus}
use Rattle.xds_stats.specs.States.{state_of, state_word}

-- a text as JSON: in quotes, with its escapes
abbrev pub quoted : List ℕ → List ℕ
quoted text = compact_text (string text)

-- the variant in a word; an empty one before the first request
abbrev pub variant_word : Option VariantName → List ℕ
variant_word None = []
variant_word (Some StateOfTheWorld) = codes "sotw"
variant_word (Some Delta) = codes "delta"

-- how a stream stands of a type, and since when, as members of an object
abbrev pub state_json : TypeStatus → List ℕ → List ℕ
state_json status since = codes "\"state\":\"" ++ (state_word (state_of status) ++ (codes "\",\"since\":\"" ++ (since ++ codes "\"")))

-- what a type was told last, and accepted last, as members of an object
abbrev pub told_json : TypeStatus → List ℕ
told_json status = codes "\"sent\":" ++ (quoted (string_bytes status.sent) ++ (codes ",\"accepted\":" ++ quoted (string_bytes status.accepted)))

-- what is shown of a rejection, as members of an object
abbrev pub rejected_json : TypeStatus → List ℕ
rejected_json status = codes "\"rejection\":" ++ (quoted (string_bytes status.rejection) ++ (codes ",\"rejected\":" ++ quoted (string_bytes status.rejected)))

-- what is shown of a type, which is so since this moment
abbrev pub type_json : TypeName → TypeStatus → List ℕ → List ℕ
type_json kind status since =
    codes "{\"type\":\"" ++ ((row kind).word ++ (codes "\",\"names\":" ++ (decimal status.names ++ (codes "," ++ (told_json status
    ++ (codes "," ++ (rejected_json status ++ (codes "," ++ (state_json status since ++ codes "}")))))))))

abbrev pub with_comma : List ℕ → List ℕ
with_comma before = if length before == 0 then before else before ++ codes ","

-- the same behind what is shown of other types, if the stream asked for the type
abbrev pub types_json : List ℕ → TypeName → TypeStatus → List ℕ → List ℕ
types_json before kind status since = if status.is_asked then with_comma before ++ type_json kind status since else before

-- what is shown of a stream's client, as members of an object
abbrev pub client_json : StreamStatus → List ℕ
client_json status =
    codes "\"peer\":" ++ (quoted (string_bytes status.peer) ++ (codes ",\"node\":" ++ (quoted (string_bytes status.node)
    ++ (codes ",\"cluster\":" ++ quoted (string_bytes status.cluster)))))

-- what is shown of a stream, which is open since this moment, and whose types are shown so
abbrev pub stream_json : ℕ → StreamStatus → List ℕ → List ℕ → List ℕ
stream_json stream status since types =
    codes "{\"stream\":" ++ (decimal stream ++ (codes "," ++ (client_json status ++ (codes ",\"variant\":\"" ++ (variant_word status.variant
    ++ (codes "\",\"since\":\"" ++ (since ++ (codes "\",\"types\":[" ++ (types ++ codes "]}")))))))))
