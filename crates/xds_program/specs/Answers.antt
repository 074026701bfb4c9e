-- The answer to the first request of a fresh stream, over the catalogues of the writes that came before it: Envoy's
-- state-of-the-world response. The version and the nonce are this project's own.
--     held_of         what is held of the type once these writes came, where nothing was held before
--     objects_of      the objects of the writes that put one
--     response_with   the response with this content, to a client of this interest
--     asked           what a fresh stream's one list of names asks for
--     response_to     a complete type is answered with its content, and an incomplete one only where there is some
--     answer_text     a response's text, and a line feed
--     response_by     the response to a request of a type of the table, by what is held of each
--     answer          what is written for the request, after these writes
use Rattle.std.specs.Prelude.{ℕ, List, [], ◌∷◌, ◌++◌, not, ◌||◌, ◌==◌, if◌then◌else◌, length, Option, Some, None, codes}
use Rattle.std.specs.List.{filter_map}
use Rattle.std.specs.Option.{option_map, option_and_then}
use Rattle.serde_json.specs.Data.{Data}
use Rattle.serde_json.specs.Written.{compact_text}
use Rattle.xds_resource.specs.declared.types.TypeName.{TypeName}
use Rattle.xds_resource.specs.Types.{row, type_of_url}
use Rattle.xds_resource.specs.TypedWrites.{TypedWrite, writes_of}
use Rattle.xds_resource.specs.Writes.{StampedWrite}
use Rattle.xds_resource.specs.Resources.{value_of}
use Rattle.xds_interest.specs.Interests.{Selection, in_cluster}
use Rattle.xds_interest.specs.SotW.{sotw_interest}
use Rattle.xds_catalogue.specs.Holdings.{Holdings, nothing_held}
use Rattle.xds_catalogue.specs.Joins.{joined}
use Rattle.xds_catalogue.specs.Content.{content}
use Rattle.xds_message.specs.Messages.{Request, Response}
use Rattle.xds_message.specs.Written.{response_object}
use Rattle.xds_ledger.specs.Texts.{interest_version}
use Rattle.xds_core.specs.Streams.{cluster_in}

-- what is held of the type once these writes came, where nothing was held before
abbrev pub held_of : List TypedWrite → TypeName → Holdings
held_of xs t = joined nothing_held (writes_of t xs)

-- the objects of the writes that put one
abbrev pub objects_of : List StampedWrite → List Data
objects_of ws = filter_map (λ w. option_map value_of w.body) ws

-- rule: nonce-numbers
-- the response with this content, to a client of this interest
abbrev pub response_with : ℕ → TypeName → ℕ → Selection → List StampedWrite → Response
response_with replica t changes s shown = record {
  version_info = interest_version replica changes s;
  resources = objects_of shown;
  type_url = (row t).url;
  nonce = codes "1";
}

-- what a fresh stream's one list of names asks for, of a client of the cluster that the request's node says
abbrev pub asked : TypeName → Request → Selection
asked t m = in_cluster (cluster_in m.node) (sotw_interest t (m.resource_names ∷ []))

-- A complete type is answered with its content, and an incomplete one only where there is some.
abbrev pub response_to : ℕ → TypeName → Holdings → Request → Option Response
response_to replica t h m =
    if (row t).is_complete || not (length (content h.entries (asked t m)) == 0) then Some (response_with replica t h.changes (asked t m) (content h.entries (asked t m))) else None

-- a response's text, and a line feed
abbrev pub answer_text : Option Response → List ℕ
answer_text None = []
answer_text (Some r) = compact_text (response_object r) ++ 10 ∷ []

-- the response to a request of a type of the table, by what is held of each; to one of another type there is none
abbrev pub response_by : ℕ → (TypeName → Holdings) → Request → Option Response
response_by replica held m = option_and_then (λ t. response_to replica t (held t) m) (type_of_url m.type_url)

-- what is written for the request, after these writes
abbrev pub answer : ℕ → List TypedWrite → Request → List ℕ
answer replica xs m = answer_text (response_by replica (held_of xs) m)
