-- How long the whole response of a type is: that for `*`, of the state of the world, of all that a replica holds of the type. This
-- project's own.
--     live_texts       the texts of what is live, in the order of the writes
--     whole_response   the response to a client without a cluster to which all of these writes are open, as the one of this number on its
--                      stream, after so many changes
--     response_bytes   how many bytes its text has
--     is_beyond        whether a text of so many bytes is refused where it is to be framed
--     most_bytes       as many bytes as a text has at most that is framed
--     is_many          whether so many bytes are told: from the half of what a frame may have on
--     others           the writes of other names than that of one
--     with_put         writes once one more is put, and the one of its name is gone
--     grows_beyond     whether a response that had so many bytes is longer now, and is refused
--     first_response   the number of a stream's first response
--     last_response    the number of the last one that a stream may have, whose nonce is as long as one gets
--     refused_bytes    how many bytes a response would have that had others before, if that is refused
--     beyond_by        how many bytes the response would have that a put is refused for, if it is
--     long_text        how a response is told that is too long
--     raised           what is known of a length, once it may have so many bytes more
--     seen             the same once its bytes were counted
--     tells            whether it is told then: it is long, and wasn't known to be
--     may_tell         whether a count may tell something: it may be long, and isn't known to be
--     warning_of       what is told of so many bytes, if something is
use Rattle.std.specs.Prelude.{ℕ, ◌+◌, ◌^◌, ◌-◌, min, List, [], ◌∷◌, ◌++◌, length, Bool, ◌&&◌, not, bytes_eq, if◌then◌else◌, nat_le, nat_lt, is_err, Option, Some, None, codes, decimal}
use Rattle.std.specs.List.{filter, filter_map}
use Rattle.xds_resource.specs.declared.types.TypeName.{TypeName}
use Rattle.xds_resource.specs.Stamps.{max_counter}
use Rattle.xds_resource.specs.Types.{row}
use Rattle.xds_resource.specs.Writes.{StampedWrite}
use Rattle.xds_frames.specs.Writing.{head_written}
use Rattle.xds_frames.specs.declared.frame.FrameKind.TheVariants.{DiscoveryResponse}
use Rattle.xds_message.specs.Drafts.{Drafted}
use Rattle.xds_message.specs.DraftTexts.{text_of}
use Rattle.xds_message.specs.declared.draft.Draft.TheVariants as drafts
use Rattle.xds_ledger.specs.Texts.{replica_version}
use Rattle.xds_stats.specs.declared.sizes.Ceiling.{Ceiling}

-- the texts of what is live, in the order of the writes
abbrev pub live_texts : List StampedWrite → List (List ℕ)
live_texts ws = filter_map (λ w. w.body) ws

-- the response to a client without a cluster to which all of these writes are open
abbrev pub whole_response : TypeName → ℕ → ℕ → ℕ → List StampedWrite → Drafted
whole_response kind replica changes number ws = record {
  kind = kind;
  version_info = replica_version replica changes;
  nonce = decimal number;
  bodies = live_texts ws;
}

-- how many bytes its text has
abbrev pub response_bytes : TypeName → ℕ → ℕ → ℕ → List StampedWrite → ℕ
response_bytes kind replica changes number ws = length (text_of (drafts.Sotw (whole_response kind replica changes number ws)))

-- whether a text of so many bytes is refused where it is to be framed
abbrev pub is_beyond : ℕ → Bool
is_beyond bytes = is_err (head_written DiscoveryResponse bytes)

-- as many bytes as a text has at most that is framed
abbrev pub most_bytes : ℕ
most_bytes = 16777215

-- whether so many bytes are told: from the half of what a frame may have on
abbrev pub is_many : ℕ → Bool
is_many bytes = nat_le 8388608 bytes

-- the writes of other names than that of one
abbrev pub others : StampedWrite → List StampedWrite → List StampedWrite
others w ws = filter (λ v. not (bytes_eq v.name w.name)) ws

-- writes once one more is put, and the one of its name is gone
abbrev pub with_put : StampedWrite → List StampedWrite → List StampedWrite
with_put w ws = others w ws ++ w ∷ []

-- whether a response that had so many bytes is longer now, and is refused
abbrev pub grows_beyond : ℕ → ℕ → Bool
grows_beyond before after = nat_lt before after && is_beyond after

-- the number of a stream's first response
abbrev pub first_response : ℕ
first_response = 1

-- the number of the last one that a stream may have, whose nonce is as long as one gets
abbrev pub last_response : ℕ
last_response = max_counter

-- how many bytes a response would have that had others before, if that is refused
abbrev pub refused_bytes : ℕ → ℕ → Option ℕ
refused_bytes before after = if grows_beyond before after then Some after else None

-- how many bytes the response would have that a put is refused for, if it is
abbrev pub beyond_by : TypeName → ℕ → ℕ → StampedWrite → List StampedWrite → Option ℕ
beyond_by kind replica changes w ws =
    refused_bytes (response_bytes kind replica changes last_response ws) (response_bytes kind replica changes last_response (with_put w ws))

-- how a response is told that is too long: its type, its bytes, and how many there may be
abbrev pub long_text : TypeName → ℕ → List ℕ
long_text kind bytes =
    codes "the whole response of " ++ ((row kind).word ++ (codes " would have " ++ (decimal bytes ++ codes " bytes, and a frame has 16777215 at most")))

-- what is known of a length, once it may have so many bytes more
abbrev pub raised : Ceiling → ℕ → Ceiling
raised c more = record c { bytes = min (c.bytes + more) (2 ^ 64 - 1) }

-- the same once its bytes were counted
abbrev pub seen : Ceiling → ℕ → Ceiling
seen c bytes = record { bytes = bytes; is_long = is_many bytes }

-- whether it is told then: it is long, and wasn't known to be
abbrev pub tells : Ceiling → ℕ → Bool
tells c bytes = not c.is_long && is_many bytes

-- whether a count may tell something: it may be long, and isn't known to be
abbrev pub may_tell : Ceiling → Bool
may_tell c = not c.is_long && is_many c.bytes

-- what is told of so many bytes at a replica's page and in its status, if something is
abbrev pub warning_of : ℕ → Option (List ℕ)
warning_of bytes =
    if is_beyond bytes then Some (codes "a client of * isn't answered: 16 FrameTooLong") else if is_many bytes then Some (codes "over half of what a frame may have") else None
