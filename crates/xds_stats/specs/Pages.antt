-- Which number of a server stands under which name, in the text format of Prometheus. This project's own.
--     type_name                     the name of a number of a type
--     type_help                     what a number of a type counts, in a sentence
--     type_kind                     whether a number of a type rises only
--     held_number                   the number, if it is of what is held
--     counted_number                the number, if it is of what was counted
--     type_number                   the number of a type at a replica; none where it isn't known
--     replica_name                  the name of a number of a replica
--     replica_help                  what a number of a replica counts, in a sentence
--     replica_kind                  whether a number of a replica rises only
--     replica_number                the number; none where there is none
--     labelled                      the line of a number of a replica with a label more
--     type_line                     the line of a number of a type, if it is known
--     replica_line                  the line of a number of a replica, if there is one
--     with_streams                  a text with the lines of a replica's open streams behind it
--     with_polls                    a text with the lines of its replies to polls behind it
--     with_types                    a text with the line of a number of each type behind it
--     with_replica                  a text with the line of a number of the replica behind it
--     with_each                     a text once lines of each replica were put behind it
--     with_numbers_of               a text with a number of each type of each replica behind it, and what the number does
--     with_number                   a text with a number of each replica behind it, and what the number does
--     with_all_streams              a text with the open streams of all replicas behind it
--     with_all_polls                a text with their replies to polls behind it
--     with_held                     a text with all numbers of types behind it
--     with_journals                 a text with the counts of journals and changes behind it
--     lag_line                      the line of how long after its last change a replica told a response, if it did
--     with_lag                      a text with that line of a replica behind it
--     with_all_lags                 a text with those lines of all replicas behind it
--     with_waits                    a text with how long puts of a replica took until streams accepted them behind it
--     with_all_waits                a text with those times of all replicas behind it
--     numbers_text                  all numbers of these replicas
use Rattle.std.specs.Prelude.{ℕ, List, [], ◌∷◌, ◌++◌, Option, Some, None, codes, decimal}
use Rattle.xds_resource.specs.declared.types.TypeName.{TypeName}
use Rattle.xds_resource.specs.declared.types.TypeName.TheVariants.{Cluster, Endpoint, Listener, Route, Secret}
use Rattle.xds_resource.specs.Types.{row}
use Rattle.xds_stats.specs.Boards.{counts_at}
use Rattle.xds_stats.specs.Looks.{held_at}
use Rattle.xds_stats.specs.Latencies.{with_latencies}
use Rattle.xds_stats.specs.Metrics.{help_line, sample_line, seconds_text, value_line}
use Rattle.xds_stats.specs.declared.counts.TypeCounts.{TypeCounts}
use Rattle.xds_stats.specs.declared.look.TypeSizes.{TypeSizes}
use Rattle.xds_stats.specs.declared.look.ReplicaSizes.{ReplicaSizes}
use Rattle.xds_stats.specs.declared.metrics.MetricKind.{MetricKind}
use Rattle.xds_stats.specs.declared.metrics.MetricKind.TheVariants.{Counter, Gauge, Histogram}
use Rattle.xds_stats.specs.declared.pages.OfReplica.{OfReplica}
use Rattle.xds_stats.specs.declared.pages.OfReplica.TheVariants.{Opened, TurnedAway, Records, Cuts, FailedCuts, Parts, LostParts, Refused}
use Rattle.xds_stats.specs.declared.pages.OfType.{OfType}
use Rattle.xds_stats.specs.declared.pages.OfType.TheVariants.{Changes, Resources, Tombstones, Bytes, Responses, Acks, Nacks}
use Rattle.xds_stats.specs.declared.pages.ReplicaNumbers.{ReplicaNumbers}

-- ---- numbers of types

abbrev pub type_name : OfType → List ℕ
type_name Changes = codes "xds_changes_total"
type_name Resources = codes "xds_resources"
type_name Tombstones = codes "xds_tombstones"
type_name Bytes = codes "xds_response_bytes"
type_name Responses = codes "xds_responses_total"
type_name Acks = codes "xds_acks_total"
type_name Nacks = codes "xds_nacks_total"

abbrev pub type_help : OfType → List ℕ
type_help Changes = codes "Changes of what the replica holds, by its own writes and others'."
type_help Resources = codes "Live resources."
type_help Tombstones = codes "Deletions that are remembered."
type_help Bytes = codes "Bytes of the whole response for *, as a stream would be told it first; 16777215 at most."
type_help Responses = codes "Responses that streams were told."
type_help Acks = codes "Responses that streams accepted."
type_help Nacks = codes "Responses that streams rejected."

abbrev pub type_kind : OfType → MetricKind
type_kind Changes = Counter
type_kind Resources = Gauge
type_kind Tombstones = Gauge
type_kind Bytes = Gauge
type_kind Responses = Counter
type_kind Acks = Counter
type_kind Nacks = Counter

-- the number, if it is of what is held
abbrev pub held_number : OfType → TypeSizes → Option ℕ
held_number Changes held = Some held.changes
held_number Resources held = Some held.resources
held_number Tombstones held = Some held.tombstones
held_number Bytes held = Some held.bytes
held_number Responses held = None
held_number Acks held = None
held_number Nacks held = None

-- the number, if it is of what was counted
abbrev pub counted_number : OfType → TypeCounts → Option ℕ
counted_number Changes counts = None
counted_number Resources counts = None
counted_number Tombstones counts = None
counted_number Bytes counts = None
counted_number Responses counts = Some counts.responses
counted_number Acks counts = Some counts.acks
counted_number Nacks counts = Some counts.nacks

abbrev number_or : Option ℕ → Option ℕ → Option ℕ
number_or (Some value) other = Some value
number_or None other = other

abbrev held_by : OfType → TypeName → Option ReplicaSizes → Option ℕ
held_by of kind None = None
held_by of kind (Some look) = held_number of (held_at look kind)

-- the number of a type at a replica; none where it isn't known
abbrev pub type_number : ReplicaNumbers → OfType → TypeName → Option ℕ
type_number shown of kind = number_or (counted_number of (counts_at shown.numbers.types kind)) (held_by of kind shown.look)

-- ---- numbers of replicas

abbrev pub replica_name : OfReplica → List ℕ
replica_name Opened = codes "xds_streams_opened_total"
replica_name TurnedAway = codes "xds_streams_turned_away_total"
replica_name Records = codes "xds_records_total"
replica_name Cuts = codes "xds_cuts_total"
replica_name FailedCuts = codes "xds_cuts_failed_total"
replica_name Parts = codes "xds_exchange_parts_total"
replica_name LostParts = codes "xds_exchange_lost_total"
replica_name Refused = codes "xds_changes_refused_total"

abbrev pub replica_help : OfReplica → List ℕ
replica_help Opened = codes "Connections that were served as streams."
replica_help TurnedAway = codes "Connections that were closed since there were as many streams as there may be."
replica_help Records = codes "Records of the journal."
replica_help Cuts = codes "Cuts of the journal."
replica_help FailedCuts = codes "Cuts of the journal that failed."
replica_help Parts = codes "Parts that other replicas told and that were merged."
replica_help LostParts = codes "Parts that other replicas told and that left no record."
replica_help Refused = codes "Changes that the replica refused."

abbrev pub replica_kind : OfReplica → MetricKind
replica_kind Opened = Counter
replica_kind TurnedAway = Counter
replica_kind Records = Counter
replica_kind Cuts = Counter
replica_kind FailedCuts = Counter
replica_kind Parts = Counter
replica_kind LostParts = Counter
replica_kind Refused = Counter

-- the number; none where there is none
abbrev pub replica_number : ReplicaNumbers → OfReplica → Option ℕ
replica_number shown Opened = Some shown.numbers.doors.opened
replica_number shown TurnedAway = Some shown.numbers.doors.turned_away
replica_number shown Records = Some shown.numbers.journal.records
replica_number shown Cuts = Some shown.numbers.journal.cuts
replica_number shown FailedCuts = Some shown.numbers.journal.failed_cuts
replica_number shown Parts = Some shown.numbers.journal.parts
replica_number shown LostParts = Some shown.numbers.journal.lost_parts
replica_number shown Refused = Some shown.numbers.refused

-- ---- lines

-- the line of a number of a replica with a label more
abbrev pub labelled : List ℕ → ℕ → List ℕ → List ℕ → ℕ → List ℕ
labelled name replica label word value =
    sample_line name (codes "replica=\"" ++ (decimal replica ++ (codes "\"," ++ (label ++ (codes "=\"" ++ (word ++ codes "\"")))))) value

abbrev type_line_of : List ℕ → ℕ → List ℕ → Option ℕ → List ℕ
type_line_of name replica word None = []
type_line_of name replica word (Some value) = labelled name replica (codes "type") word value

-- the line of a number of a type, if it is known
abbrev pub type_line : OfType → ReplicaNumbers → TypeName → List ℕ
type_line of shown kind = type_line_of (type_name of) shown.replica (row kind).word (type_number shown of kind)

abbrev replica_line_of : List ℕ → ℕ → Option ℕ → List ℕ
replica_line_of name replica None = []
replica_line_of name replica (Some value) = sample_line name (codes "replica=\"" ++ (decimal replica ++ codes "\"")) value

-- the line of a number of a replica, if there is one
abbrev pub replica_line : OfReplica → ReplicaNumbers → List ℕ
replica_line of shown = replica_line_of (replica_name of) shown.replica (replica_number shown of)

abbrev variant_line : ℕ → List ℕ → ℕ → List ℕ
variant_line replica word value = labelled (codes "xds_streams") replica (codes "variant") word value

-- A text with lines of a replica behind it: those of its open streams.
abbrev pub with_streams : List ℕ → ReplicaNumbers → List ℕ
with_streams text shown =
    ((text ++ variant_line shown.replica (codes "sotw") shown.numbers.streams.sotw) ++ variant_line shown.replica (codes "delta") shown.numbers.streams.delta)
    ++ variant_line shown.replica (codes "none") shown.numbers.streams.silent

abbrev status_line : ℕ → List ℕ → ℕ → List ℕ
status_line replica word value = labelled (codes "xds_rest_replies_total") replica (codes "status") word value

-- those of its replies to polls over HTTP
abbrev pub with_polls : List ℕ → ReplicaNumbers → List ℕ
with_polls text shown =
    ((((text ++ status_line shown.replica (codes "200") shown.numbers.rest.ok) ++ status_line shown.replica (codes "304") shown.numbers.rest.unchanged)
    ++ status_line shown.replica (codes "400") shown.numbers.rest.bad) ++ status_line shown.replica (codes "503") shown.numbers.rest.unavailable)
    ++ status_line shown.replica (codes "other") shown.numbers.rest.other

-- those of a number of each type
abbrev pub with_types : OfType → List ℕ → ReplicaNumbers → List ℕ
with_types of text shown =
    ((((text ++ type_line of shown Cluster) ++ type_line of shown Endpoint) ++ type_line of shown Listener) ++ type_line of shown Route) ++ type_line of shown Secret

-- that of a number of the replica
abbrev pub with_replica : OfReplica → List ℕ → ReplicaNumbers → List ℕ
with_replica of text shown = text ++ replica_line of shown

-- ---- the whole text

-- a text once lines of each replica were put behind it
abbrev pub with_each : (List ℕ → ReplicaNumbers → List ℕ) → List ℕ → List ReplicaNumbers → List ℕ
with_each put text [] = text
with_each put text (s ∷ ss) = with_each put (put text s) ss

-- a text with a number of each type of each replica behind it, and what the number does
abbrev pub with_numbers_of : OfType → List ℕ → List ReplicaNumbers → List ℕ
with_numbers_of of text replicas = with_each (with_types of) (text ++ help_line (type_name of) (type_help of) (type_kind of)) replicas

-- the same with a number of each replica
abbrev pub with_number : OfReplica → List ℕ → List ReplicaNumbers → List ℕ
with_number of text replicas = with_each (with_replica of) (text ++ help_line (replica_name of) (replica_help of) (replica_kind of)) replicas

-- with their open streams
abbrev pub with_all_streams : List ℕ → List ReplicaNumbers → List ℕ
with_all_streams text replicas = with_each with_streams (text ++ help_line (codes "xds_streams") (codes "Open streams, by the variant of the first request.") Gauge) replicas

-- with their replies to polls over HTTP
abbrev pub with_all_polls : List ℕ → List ReplicaNumbers → List ℕ
with_all_polls text replicas = with_each with_polls (text ++ help_line (codes "xds_rest_replies_total") (codes "Replies to polls over HTTP, by their status.") Counter) replicas

-- with all numbers of types
abbrev pub with_held : List ℕ → List ReplicaNumbers → List ℕ
with_held text rs =
    with_numbers_of Nacks (with_numbers_of Acks (with_numbers_of Responses (with_numbers_of Bytes (with_numbers_of Tombstones (with_numbers_of Resources (with_numbers_of Changes text rs) rs) rs) rs) rs) rs) rs

-- with what was counted of journals and changes
abbrev pub with_journals : List ℕ → List ReplicaNumbers → List ℕ
with_journals text rs =
    with_number Refused (with_number LostParts (with_number Parts (with_number FailedCuts (with_number Cuts (with_number Records text rs) rs) rs) rs) rs) rs

abbrev lag_line_of : ℕ → Option ℕ → List ℕ
lag_line_of replica None = []
lag_line_of replica (Some micros) =
    value_line (codes "xds_put_to_last_response_seconds") (codes "replica=\"" ++ (decimal replica ++ codes "\"")) (seconds_text micros)

-- the line of how long after its last change a replica told a response, if it did
abbrev pub lag_line : ReplicaNumbers → List ℕ
lag_line shown = lag_line_of shown.replica shown.numbers.lag

-- the same behind a text
abbrev pub with_lag : List ℕ → ReplicaNumbers → List ℕ
with_lag text shown = text ++ lag_line shown

-- with those of replicas
abbrev pub with_all_lags : List ℕ → List ReplicaNumbers → List ℕ
with_all_lags text replicas =
    with_each with_lag (text ++ help_line (codes "xds_put_to_last_response_seconds") (codes "Time from the last change made at the replica to the last response there.") Gauge) replicas

-- with how long puts took until streams of a replica accepted them
abbrev pub with_waits : List ℕ → ReplicaNumbers → List ℕ
with_waits text shown = with_latencies text shown.replica shown.numbers.accepts

-- of replicas
abbrev pub with_all_waits : List ℕ → List ReplicaNumbers → List ℕ
with_all_waits text replicas =
    with_each with_waits (text ++ help_line (codes "xds_put_to_accept_seconds") (codes "Time from the last put at the replica that a response tells first until its stream accepted it.") Histogram) replicas

-- all numbers of these replicas
abbrev pub numbers_text : List ReplicaNumbers → List ℕ
numbers_text rs =
    with_all_polls (with_all_waits (with_all_lags (with_journals (with_number TurnedAway (with_number Opened (with_all_streams (with_held [] rs) rs) rs) rs) rs) rs) rs) rs
