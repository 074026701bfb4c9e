-- What is shown of streams as lines of a plain text. This project's own.
--     rejected_plain    what is shown of a nonce that was rejected, and of the text of its rejection
--     rejection_plain   what is shown of a rejection, if there is one
--     told_plain        what is shown of a type that was asked for behind its state
--     detail_plain      what is shown of a type behind its state
--     type_plain        the line of a type of a stream
--     client_plain      whose stream it is
--     stream_plain      the line of a stream
use Rattle.std.specs.Prelude.{ℕ, List, [], ◌++◌, if◌then◌else◌, codes, decimal, string_bytes}
use Rattle.xds_resource.specs.declared.types.TypeName.{TypeName}
use Rattle.xds_resource.specs.Types.{row}
use Rattle.xds_stats.specs.declared.state.TypeState.{TypeState}
use Rattle.xds_stats.specs.declared.state.TypeState.TheVariants.{NeverAsked, Pending, Rejected, Synced}
use Rattle.xds_stats.specs.declared.stream_status.StreamStatus.{StreamStatus}
use Rattle.xds_stats.specs.declared.stream_status.TypeStatus.{TypeStatus}
use Rattle.xds_stats.specs.States.{state_of, state_word}
use Rattle.xds_stats.specs.Statuses.{variant_word}

-- what is shown of a rejection
abbrev pub rejected_plain : TypeStatus → List ℕ
rejected_plain status = codes ", response \"" ++ (string_bytes status.rejected ++ (codes "\" is rejected: \"" ++ (string_bytes status.rejection ++ codes "\"")))

-- the same, if there is one
abbrev pub rejection_plain : TypeStatus → List ℕ
rejection_plain status = if status.is_rejected then rejected_plain status else []

-- what is shown of a type that was asked for behind its state
abbrev pub told_plain : TypeStatus → List ℕ → List ℕ
told_plain status since =
    codes " since " ++ (since ++ (codes ", sent \"" ++ (string_bytes status.sent ++ (codes "\", accepted \"" ++ (string_bytes status.accepted ++ codes "\"")))))

abbrev detail_by : TypeState → TypeStatus → List ℕ → List ℕ
detail_by NeverAsked status since = []
detail_by Pending status since = told_plain status since
detail_by Rejected status since = told_plain status since
detail_by Synced status since = told_plain status since

-- what is shown of a type behind its state
abbrev pub detail_plain : TypeStatus → List ℕ → List ℕ
detail_plain status since = detail_by (state_of status) status since

-- the line of a type of a stream
abbrev pub type_plain : TypeName → TypeStatus → List ℕ → List ℕ
type_plain kind status since =
    codes "    " ++ ((row kind).word ++ (codes ": " ++ (state_word (state_of status) ++ (detail_plain status since ++ (rejection_plain status ++ codes "\n")))))

-- whose stream it is
abbrev pub client_plain : StreamStatus → List ℕ
client_plain status =
    codes "node \"" ++ (string_bytes status.node ++ (codes "\", cluster \"" ++ (string_bytes status.cluster ++ (codes "\", from " ++ (string_bytes status.peer
    ++ (codes ", " ++ variant_word status.variant))))))

-- the line of a stream
abbrev pub stream_plain : ℕ → ℕ → StreamStatus → List ℕ → List ℕ
stream_plain replica stream status since =
    codes "replica " ++ (decimal replica ++ (codes ", stream " ++ (decimal stream ++ (codes ": " ++ (client_plain status ++ (codes " since " ++ (since ++ codes "\n")))))))
