-- The interest of an incremental (delta) stream, from its subscribe and unsubscribe lists, as Envoy's "xDS REST and gRPC protocol" tells.
--     Mention           the two lists of a request
--     mention_of        a request by its lists of strings
--     said              what one request says of a text: subscribed or not, or nothing where it does not mention it
--     last_said         what the last request that mentions a text says of it
--     is_subscribed     whether the last request that mentions a text subscribes it
--     opens_unnamed     whether there is a first request, and it subscribes nothing
--     ever_subscribed   every text that some request subscribes
--     delta_interest    the interest after these requests, in order
use Rattle.std.specs.Prelude.{ℕ, List, [], ◌∷◌, map, String, string_bytes, Bool, true, false, ◌&&◌, not, Option, Some, None, unwrap_or, if◌then◌else◌}
use Rattle.std.specs.List.{filter, flat_map}
use Rattle.std.specs.Option.{option_or}
use Rattle.std.specs.FinSet as set
use Rattle.xds_resource.specs.declared.types.TypeName.{TypeName}
use Rattle.xds_resource.specs.Types.{row}
use Rattle.xds_interest.specs.Interests.{Selection, star_text, is_star, has_name}
use Rattle.xds_interest.specs.SotW.{is_named}

-- the two lists of a request
pub record Mention : Type 0 where
  pub subscribe : List (List ℕ)
  pub unsubscribe : List (List ℕ)

-- a request by its lists of strings
abbrev pub mention_of : {Y : Type 0} → List (String Y) → List (String Y) → Mention
mention_of subscribe unsubscribe = record { subscribe = map string_bytes subscribe; unsubscribe = map string_bytes unsubscribe }

-- rule: delta-names
-- What one request says of a text: subscribed or not, or nothing where it does not mention it. In both lists it is subscribed.
abbrev pub said : Mention → List ℕ → Option Bool
said m text = if has_name m.subscribe text then Some true else if has_name m.unsubscribe text then Some false else None

-- rule: delta-names
-- what the last request that mentions a text says of it
abbrev pub last_said : List Mention → List ℕ → Option Bool
last_said [] text = None
last_said (m ∷ ms) text = option_or (last_said ms text) (said m text)

-- rule: delta-names
-- whether the last request that mentions a text subscribes it
abbrev pub is_subscribed : List Mention → List ℕ → Bool
is_subscribed ms text = unwrap_or (last_said ms text) false

-- rule: delta-names
-- whether there is a first request, and it subscribes nothing
abbrev pub opens_unnamed : List Mention → Bool
opens_unnamed [] = false
opens_unnamed (m ∷ ms) = not (is_named m.subscribe)

-- rule: delta-names
-- every text that some request subscribes
abbrev pub ever_subscribed : List Mention → List (List ℕ)
ever_subscribed ms = flat_map (λ m. m.subscribe) ms

-- rule: delta-names
-- The interest after these requests, in order. A complete type's star stands by its last mention, or else from the first request on if that subscribed nothing.
abbrev pub delta_interest : TypeName → List Mention → Selection
delta_interest t ms = record {
  star = (row t).is_complete && unwrap_or (last_said ms star_text) (opens_unnamed ms);
  names = set.from_list (filter (λ text. is_subscribed ms text && not (is_star t text)) (ever_subscribed ms));
  cluster = [];
}
