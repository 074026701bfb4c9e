-- What is shown of streams on a page of HTML. This project's own.
--     html_char       what stands for a character of a text: an entity for one by which HTML begins or ends something
--     escaped         a text, as HTML
--     class_word      the class of a state, by which it has its colour
--     rejected_html   what is shown of a nonce that was rejected, and of the text of its rejection
--     rejection_html  what is shown of a rejection, if there is one
--     told_html       what is shown of a type that was asked for behind its state
--     detail_html     what is shown of a type behind its state
--     cell_html       what is shown of a type of a stream
--     client_html     what is shown of a stream's client
--     row_html        what is shown of a stream, whose cells are these
use Rattle.std.specs.Prelude.{ℕ, List, [], ◌++◌, ◌==◌, if◌then◌else◌, codes, decimal, encode_utf8, flat_map, string_bytes}
use Rattle.std.specs.Str.{chars}
use Rattle.xds_stats.specs.declared.state.TypeState.{TypeState}
use Rattle.xds_stats.specs.declared.state.TypeState.TheVariants.{NeverAsked, Pending, Rejected, Synced}
use Rattle.xds_stats.specs.declared.stream_status.StreamStatus.{StreamStatus}
use Rattle.xds_stats.specs.declared.stream_status.TypeStatus.{TypeStatus}
use Rattle.xds_stats.specs.States.{state_of, state_word}
use Rattle.xds_stats.specs.Statuses.{variant_word}

-- What stands for a character of a text: an entity for `<`, `>`, `&` and both quotes, and the character for any other.
abbrev pub html_char : ℕ → List ℕ
html_char c =
    if c == 60 then codes "&lt;" else if c == 62 then codes "&gt;" else if c == 38 then codes "&amp;" else if c == 34 then codes "&quot;"
    else if c == 39 then codes "&#39;" else encode_utf8 c

-- a text, as HTML
abbrev pub escaped : List ℕ → List ℕ
escaped text = flat_map html_char (chars text)

-- the class of a state, by which it has its colour
abbrev pub class_word : TypeState → List ℕ
class_word NeverAsked = codes "never"
class_word Pending = codes "pending"
class_word Rejected = codes "rejected"
class_word Synced = codes "synced"

-- what is shown of a rejection
abbrev pub rejected_html : TypeStatus → List ℕ
rejected_html status = codes "<br>response " ++ (escaped (string_bytes status.rejected) ++ (codes ": " ++ escaped (string_bytes status.rejection)))

-- the same, if there is one
abbrev pub rejection_html : TypeStatus → List ℕ
rejection_html status = if status.is_rejected then rejected_html status else []

-- what is shown of a type that was asked for behind its state
abbrev pub told_html : TypeStatus → List ℕ → List ℕ
told_html status since =
    codes "<br>since " ++ (since ++ (codes "<br>sent " ++ (escaped (string_bytes status.sent) ++ (codes "<br>accepted " ++ escaped (string_bytes status.accepted)))))

abbrev detail_by : TypeState → TypeStatus → List ℕ → List ℕ
detail_by NeverAsked status since = []
detail_by Pending status since = told_html status since
detail_by Rejected status since = told_html status since
detail_by Synced status since = told_html status since

-- what is shown of a type behind its state
abbrev pub detail_html : TypeStatus → List ℕ → List ℕ
detail_html status since = detail_by (state_of status) status since

-- what is shown of a type of a stream
abbrev pub cell_html : TypeStatus → List ℕ → List ℕ
cell_html status since =
    codes "<td class=\"" ++ (class_word (state_of status) ++ (codes "\"><b>" ++ (state_word (state_of status)
    ++ (codes "</b>" ++ (detail_html status since ++ (rejection_html status ++ codes "</td>"))))))

-- what is shown of a stream's client
abbrev pub client_html : StreamStatus → List ℕ
client_html status =
    codes "<td>" ++ (escaped (string_bytes status.node) ++ (codes "</td><td>" ++ (escaped (string_bytes status.cluster) ++ (codes "</td><td>"
    ++ (escaped (string_bytes status.peer) ++ codes "</td>")))))

-- what is shown of a stream, whose cells are these
abbrev pub row_html : ℕ → StreamStatus → List ℕ → List ℕ → List ℕ
row_html stream status since cells =
    codes "<tr><td>" ++ (decimal stream ++ (codes "</td>" ++ (client_html status ++ (codes "<td>" ++ (variant_word status.variant
    ++ (codes "</td><td>" ++ (since ++ (codes "</td>" ++ (cells ++ codes "</tr>\n")))))))))
