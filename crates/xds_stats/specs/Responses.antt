-- How the lengths of a replica's whole responses are shown. This project's own.
--     warning_json     what is told of a length, as a member of an object behind others, if something is
--     response_head    the length of a type's response, as JSON, without its end and what is told of it
--     response_json    the length of a type's response, as JSON
--     with_response    texts of responses with that of one more type behind them
--     responses_json   those of all types, as JSON
--     warning_line     a line of HTML that tells this of the length of a type's response
--     warning_html     what is told of the length of a type's response, as HTML, if something is
--     warnings_html    the same of all types
use Rattle.std.specs.Prelude.{ℕ, List, [], ◌++◌, Option, Some, None, codes, decimal}
use Rattle.xds_resource.specs.declared.types.TypeName.{TypeName}
use Rattle.xds_resource.specs.declared.types.TypeName.TheVariants.{Cluster, Endpoint, Listener, Route, Secret}
use Rattle.xds_resource.specs.Types.{row}
use Rattle.xds_stats.specs.Sizes.{warning_of}
use Rattle.xds_stats.specs.declared.look.ReplicaSizes.{ReplicaSizes}

abbrev warning_member : Option (List ℕ) → List ℕ
warning_member None = []
warning_member (Some text) = codes ",\"warning\":\"" ++ (text ++ codes "\"")

-- what is told of a length, as a member of an object behind others, if something is
abbrev pub warning_json : ℕ → List ℕ
warning_json bytes = warning_member (warning_of bytes)

-- the length of a type's response, as JSON, without its end and what is told of it
abbrev pub response_head : TypeName → ℕ → List ℕ
response_head kind bytes = codes "{\"type\":\"" ++ ((row kind).word ++ (codes "\",\"bytes\":" ++ (decimal bytes ++ codes ",\"limit\":16777215")))

-- the length of a type's response, as JSON
abbrev pub response_json : TypeName → ℕ → List ℕ
response_json kind bytes = response_head kind bytes ++ (warning_json bytes ++ codes "}")

-- texts of responses with that of one more type behind them
abbrev pub with_response : TypeName → ℕ → List ℕ → List ℕ
with_response kind bytes text = text ++ (codes "," ++ response_json kind bytes)

-- those of all types, as JSON
abbrev pub responses_json : ReplicaSizes → List ℕ
responses_json look =
    codes "[" ++ (with_response Secret look.secret.bytes (with_response Route look.route.bytes (with_response Listener look.listener.bytes
    (with_response Endpoint look.endpoint.bytes (response_json Cluster look.cluster.bytes)))) ++ codes "]")

-- a line of HTML that tells this of the length of a type's response
abbrev pub warning_line : TypeName → ℕ → List ℕ → List ℕ
warning_line kind bytes text =
    codes "<p class=\"rejected\"><b>" ++ ((row kind).word ++ (codes "</b>: the whole response has " ++ (decimal bytes
    ++ (codes " bytes, and a frame has 16777215 at most: " ++ (text ++ codes "</p>\n")))))

abbrev line_of : TypeName → ℕ → Option (List ℕ) → List ℕ
line_of kind bytes None = []
line_of kind bytes (Some text) = warning_line kind bytes text

-- what is told of the length of a type's response, as HTML, if something is
abbrev pub warning_html : TypeName → ℕ → List ℕ
warning_html kind bytes = line_of kind bytes (warning_of bytes)

-- the same of all types
abbrev pub warnings_html : ReplicaSizes → List ℕ
warnings_html look =
    (((warning_html Cluster look.cluster.bytes ++ warning_html Endpoint look.endpoint.bytes) ++ warning_html Listener look.listener.bytes)
    ++ warning_html Route look.route.bytes) ++ warning_html Secret look.secret.bytes
