-- Which names a request touches, so that a server answers them anew. Drawn from Envoy's "xDS REST and gRPC protocol"; the word is this project's own.
--     exactly_one     whether just one of two holds
--     sotw_touches    state of the world, from the old interest to the new
--     mentions        whether a request mentions a text in one of its lists
--     delta_touches   delta: each name that the request mentions
use Rattle.std.specs.Prelude.{ℕ, List, Bool, ◌&&◌, ◌||◌, not}
use Rattle.std.specs.FinSet as set
use Rattle.xds_resource.specs.declared.types.TypeName.{TypeName}
use Rattle.xds_resource.specs.Types.{row}
use Rattle.xds_interest.specs.Interests.{Selection, star_text, has_name}
use Rattle.xds_interest.specs.Delta.{Mention}

abbrev pub exactly_one : Bool → Bool → Bool
exactly_one a b = (a && not b) || (not a && b)

-- State of the world, from the old interest to the new: each name explicit in exactly one of the two, and every name if the star stands in exactly one.
abbrev pub sotw_touches : Selection → Selection → List ℕ → Bool
sotw_touches old new name = exactly_one old.star new.star || exactly_one (set.contains old.names name) (set.contains new.names name)

-- whether a request mentions a text in one of its lists
abbrev pub mentions : Mention → List ℕ → Bool
mentions m text = has_name m.subscribe text || has_name m.unsubscribe text

-- delta: each name that the request mentions, and every name if it mentions the star of a complete type
abbrev pub delta_touches : TypeName → Mention → List ℕ → Bool
delta_touches t m name = mentions m name || ((row t).is_complete && mentions m star_text)
