-- Of which stream and type each line of a trace is, and which lines of a stream stand before others. Lines go by their numbers, from 1,
-- or by their places, from 0; the line that came first stands first here. This project's own.
--     stream_of              the stream of a line, if it is of one
--     is_on                  whether a line is of a stream
--     type_of                the type that a line is about, if it is about one of the table
--     nonce_of               the nonce of a response, empty where a line is none
--     nonce_at               the nonce of the response at a place, empty where there is none
--     request_on             the request that a line is on a stream, if it is one
--     first_request_from     the first request among some lines, the first of which has this number
--     first_request          the first request on a stream, and the number of its line
--     is_response_on         whether a line is a response on a stream
--     last_response_from     the last response among some lines and before them
--     last_response          the number of the last response on a stream
--     used_from              the first response with a nonce among some lines, the first of which has this number
--     used_at                the number of the first response on a stream with this nonce
use Rattle.std.specs.Prelude.{ℕ, ◌+◌, ◌==◌, List, [], ◌∷◌, Bool, false, true, ◌&&◌, if◌then◌else◌, Option, Some, None, bytes_eq, slice_get}
use Rattle.std.specs.Option.{option_map, option_map_or}
use Rattle.xds_resource.specs.declared.types.TypeName.{TypeName}
use Rattle.xds_resource.specs.Any.{write_type}
use Rattle.xds_resource.specs.Types.{type_of_url}
use Rattle.xds_check.specs.declared.asking.Asking.{Asking}
use Rattle.xds_check.specs.declared.line.Line.{Line}
use Rattle.xds_check.specs.declared.line.Line.TheVariants as lines
use Rattle.xds_check.specs.Answers.{url_of}

-- the stream of a line, if it is of one
abbrev pub stream_of : Line → Option ℕ
stream_of (lines.Write w) = None
stream_of (lines.Open s) = Some s
stream_of (lines.Close s) = Some s
stream_of (lines.Request s m) = Some s
stream_of (lines.Response s a) = Some s
stream_of (lines.Idle s t) = Some s

-- whether a line is of a stream
abbrev pub is_on : ℕ → Line → Bool
is_on stream l = option_map_or (λ s. s == stream) (stream_of l) false

-- the type that a line is about, if it is about one of the table
abbrev pub type_of : Line → Option TypeName
type_of (lines.Write w) = Some (write_type w)
type_of (lines.Open s) = None
type_of (lines.Close s) = None
type_of (lines.Request s m) = type_of_url (url_of m)
type_of (lines.Response s a) = Some a.kind
type_of (lines.Idle s t) = Some t

-- the nonce of a response, empty where a line is none
abbrev pub nonce_of : Line → List ℕ
nonce_of (lines.Write w) = []
nonce_of (lines.Open s) = []
nonce_of (lines.Close s) = []
nonce_of (lines.Request s m) = []
nonce_of (lines.Response s a) = a.nonce
nonce_of (lines.Idle s t) = []

-- the nonce of the response at a place, empty where there is none
abbrev pub nonce_at : List Line → ℕ → List ℕ
nonce_at trace place = option_map_or nonce_of (slice_get trace place) []

-- the request that a line is on a stream, if it is one
abbrev pub request_on : ℕ → Line → Option Asking
request_on stream (lines.Write w) = None
request_on stream (lines.Open s) = None
request_on stream (lines.Close s) = None
request_on stream (lines.Request s m) = if s == stream then Some m else None
request_on stream (lines.Response s a) = None
request_on stream (lines.Idle s t) = None

abbrev first_or : ℕ → Option Asking → Option (ℕ × Asking) → Option (ℕ × Asking)
first_or number None later = later
first_or number (Some m) later = Some (number, m)

-- the first request among some lines, the first of which has this number
abbrev pub first_request_from : ℕ → ℕ → List Line → Option (ℕ × Asking)
first_request_from stream number [] = None
first_request_from stream number (l ∷ ls) = first_or number (request_on stream l) (first_request_from stream (number + 1) ls)

-- the first request on a stream, and the number of its line
abbrev pub first_request : ℕ → List Line → Option (ℕ × Asking)
first_request stream trace = first_request_from stream 1 trace

-- whether a line is a response on a stream
abbrev pub is_response_on : ℕ → Line → Bool
is_response_on stream (lines.Write w) = false
is_response_on stream (lines.Open s) = false
is_response_on stream (lines.Close s) = false
is_response_on stream (lines.Request s m) = false
is_response_on stream (lines.Response s a) = s == stream
is_response_on stream (lines.Idle s t) = false

-- the last response among some lines, the first of which has this number, and before them
abbrev pub last_response_from : ℕ → ℕ → List Line → Option ℕ → Option ℕ
last_response_from stream number [] before = before
last_response_from stream number (l ∷ ls) before = last_response_from stream (number + 1) ls (if is_response_on stream l then Some number else before)

-- the number of the last response on a stream
abbrev pub last_response : ℕ → List Line → Option ℕ
last_response stream trace = last_response_from stream 1 trace None

-- rule: new-nonce
-- the first response with a nonce among some lines, the first of which has this number
abbrev pub used_from : ℕ → List ℕ → ℕ → List Line → Option ℕ
used_from stream nonce number [] = None
used_from stream nonce number (l ∷ ls) =
    if is_response_on stream l && bytes_eq (nonce_of l) nonce then Some number else used_from stream nonce (number + 1) ls

-- the number of the first response on a stream with this nonce
abbrev pub used_at : ℕ → List ℕ → List Line → Option ℕ
used_at stream nonce trace = used_from stream nonce 1 trace
