-- What is told in words of a JSON text that is to be a message. This project's own.
--     Text             bytes
--     quoted           a text in quotation marks
--     near_text        what is told of a URL of no type, and the type that it may mean
--     type_text        what is told of a type URL, nothing where it is known
--     not_json_text    what is told of a text that is no JSON, by the byte at which that shows
--     field_text       what is told of a field that doesn't hold what it is to hold
--     fields_of        the fields of each message, in the order in which they are looked at
--     held_text        the text that a field is set to
--     url_of           the type URL of a request or a response, empty where none is set
--     request_text     what is told of a request whose fields can be read, by its type URL
--     has_others       whether some item is no object
--     lacks_items      whether what is there is no list, or has others
--     lacks_set        whether what is set is anything but a list of objects
--     lacks_objects    whether a field is set to anything but a list of objects
--     response_text    what is told of a response whose fields can be read
--     refused_text     what is told of a body that is refused as a resource
--     body_text        what is told of a body that stands in no write
--     unwritten_text   what is told of a write whose fields can be read and that is none
--     IsWrite          a text spells a write
--     Spells           a test is true where something is so, and else false
--     IsBodyTold       what is told of a write of a known type
--     IsUrlTold        what is told of a write by the type that its URL names
--     IsWriteTold      what is told of a write whose fields can be read
--     IsRestTold       what is told of a message whose fields can be read
--     IsFieldTold      what is told of a message, by its first field that can't be read
--     IsObjectTold     what is told of a JSON value that is to be a message
--     IsMessageTold    what is told of a text that is to be one
use Rattle.std.specs.Prelude.{◌≡◌, ◌⊎◌, ℕ, List, [], ◌∷◌, ◌++◌, length, ◌==◌, ◌||◌, Bool, true, false, not, if◌then◌else◌, bytes_eq, Option, Some, None, is_some, Result, Ok, Err, codes, decimal}
use Rattle.std.specs.Option.{option_and_then, unwrap_or}
use Rattle.serde_json.specs.Data.{Data, Items, no_items, item}
use Rattle.serde_json.specs.Find.{as_array, as_object, as_str, get}
use Rattle.xds_resource.specs.declared.refusal.Refusal.{Refusal}
use Rattle.xds_resource.specs.declared.types.TypeName.{TypeName}
use Rattle.xds_resource.specs.Fields.{field}
use Rattle.xds_resource.specs.Refusals.{name_of, number_of}
use Rattle.xds_resource.specs.Resources.{NamedBody, from_value}
use Rattle.xds_resource.specs.Types.{row, type_of_url}
use Rattle.xds_resource.specs.Writes.{StampedWrite}
use Rattle.xds_json.specs.Spelling.{IsJson, set_value}
use Rattle.xds_message.specs.StampedWrites.{SpellsWrite}
use Rattle.xds_causes.specs.declared.fields.Shape.TheVariants as shapes
use Rattle.xds_causes.specs.declared.messages.Message.{Message}
use Rattle.xds_causes.specs.declared.messages.Message.TheVariants as messages
use Rattle.xds_causes.specs.Fields.{IsFirstWrong, Wanted, shape_text}
use Rattle.xds_causes.specs.Likeness.{type_near}

abbrev pub Text : Type 0
Text = List ℕ

-- a text in quotation marks
abbrev pub quoted : Text → Text
quoted text = codes "\"" ++ text ++ codes "\""

-- ---- type URLs

-- what is told of a URL of no type, and the type that it may mean
abbrev pub near_text : Text → Option TypeName → Text
near_text url None = codes "typeUrl \"" ++ url ++ codes "\" is none that is known"
near_text url (Some t) = codes "typeUrl \"" ++ url ++ codes "\" is none that is known; did you mean \"" ++ (row t).url ++ codes "\"?"

-- what is told of a type URL, nothing where it is known
abbrev pub type_text : Text → Text
type_text url = if is_some (type_of_url url) then [] else near_text url (type_near url)

-- ---- texts and fields

-- what is told of a text that is no JSON, by the byte at which that shows
abbrev pub not_json_text : ℕ → Text
not_json_text column = codes "not JSON at byte " ++ decimal column

-- what is told of a field that doesn't hold what it is to hold
abbrev pub field_text : Wanted → Data → Text
field_text w d =
    if is_some (set_value (field w.camel w.proto d)) then codes "\"" ++ w.camel ++ codes "\" isn't " ++ shape_text w.shape
    else codes "there is no \"" ++ w.camel ++ codes "\": " ++ shape_text w.shape

-- the fields of each message, in the order in which they are looked at
abbrev pub fields_of : Message → List Wanted
fields_of messages.Write =
    record { camel = codes "typeUrl"; proto = codes "typeUrl"; shape = shapes.Text }
    ∷ record { camel = codes "name"; proto = codes "name"; shape = shapes.Name }
    ∷ record { camel = codes "counter"; proto = codes "counter"; shape = shapes.Counter }
    ∷ record { camel = codes "writer"; proto = codes "writer"; shape = shapes.Writer }
    ∷ record { camel = codes "groups"; proto = codes "groups"; shape = shapes.Texts }
    ∷ []
fields_of messages.Request =
    record { camel = codes "versionInfo"; proto = codes "version_info"; shape = shapes.Text }
    ∷ record { camel = codes "node"; proto = codes "node"; shape = shapes.Node }
    ∷ record { camel = codes "typeUrl"; proto = codes "type_url"; shape = shapes.Text }
    ∷ record { camel = codes "responseNonce"; proto = codes "response_nonce"; shape = shapes.Text }
    ∷ record { camel = codes "errorDetail"; proto = codes "error_detail"; shape = shapes.Detail }
    ∷ record { camel = codes "resourceNames"; proto = codes "resource_names"; shape = shapes.Texts }
    ∷ []
fields_of messages.DeltaRequest =
    record { camel = codes "node"; proto = codes "node"; shape = shapes.Node }
    ∷ record { camel = codes "typeUrl"; proto = codes "type_url"; shape = shapes.Text }
    ∷ record { camel = codes "resourceNamesSubscribe"; proto = codes "resource_names_subscribe"; shape = shapes.Texts }
    ∷ record { camel = codes "resourceNamesUnsubscribe"; proto = codes "resource_names_unsubscribe"; shape = shapes.Texts }
    ∷ record { camel = codes "initialResourceVersions"; proto = codes "initial_resource_versions"; shape = shapes.Versions }
    ∷ record { camel = codes "responseNonce"; proto = codes "response_nonce"; shape = shapes.Text }
    ∷ record { camel = codes "errorDetail"; proto = codes "error_detail"; shape = shapes.Detail }
    ∷ []
fields_of messages.Response =
    record { camel = codes "versionInfo"; proto = codes "version_info"; shape = shapes.Text }
    ∷ record { camel = codes "typeUrl"; proto = codes "type_url"; shape = shapes.Text }
    ∷ record { camel = codes "nonce"; proto = codes "nonce"; shape = shapes.Text }
    ∷ []
fields_of messages.DeltaResponse =
    record { camel = codes "systemVersionInfo"; proto = codes "system_version_info"; shape = shapes.Text }
    ∷ record { camel = codes "typeUrl"; proto = codes "type_url"; shape = shapes.Text }
    ∷ record { camel = codes "nonce"; proto = codes "nonce"; shape = shapes.Text }
    ∷ record { camel = codes "removedResources"; proto = codes "removed_resources"; shape = shapes.Texts }
    ∷ []

-- ---- requests and responses

-- the text that a field is set to
abbrev pub held_text : Text → Text → Data → Option Text
held_text camel proto d = option_and_then as_str (set_value (field camel proto d))

-- the type URL of a request or a response, empty where none is set
abbrev pub url_of : Data → Text
url_of d = unwrap_or (held_text (codes "typeUrl") (codes "type_url") d) []

-- what is told of a request whose fields can be read, by its type URL
abbrev pub request_text : Text → Text
request_text url = if length url == 0 then codes "there is no \"typeUrl\": the type of the resources that are asked for" else type_text url

-- whether some item is no object
abbrev pub has_others : Items → Bool
has_others no_items = false
has_others (item d ds) = not (is_some (as_object d)) || has_others ds

-- whether what is set is anything but a list of objects
abbrev pub lacks_items : Option Items → Bool
lacks_items None = true
lacks_items (Some ds) = has_others ds

abbrev pub lacks_set : Option Data → Bool
lacks_set None = false
lacks_set (Some d) = lacks_items (as_array d)

-- whether a field is set to anything but a list of objects
abbrev pub lacks_objects : Text → Data → Bool
lacks_objects key d = lacks_set (set_value (field key key d))

-- what is told of a response whose fields can be read; `known` of one of a known type
abbrev pub response_text : Text → Data → Text
response_text known d =
    if lacks_objects (codes "resources") d then codes "\"resources\" isn't a list of objects"
    else if is_some (type_of_url (url_of d)) then known
    else near_text (url_of d) (type_near (url_of d))

-- ---- writes

-- what is told of a body that is refused as a resource
abbrev pub refused_text : TypeName → Option Text → Refusal → Text
refused_text t None e = codes "\"body\" is no resource of the type: " ++ decimal (number_of e) ++ codes " " ++ name_of e
refused_text t (Some url) e =
    if bytes_eq url (row t).url then codes "\"body\" is no resource of the type: " ++ decimal (number_of e) ++ codes " " ++ name_of e
    else codes "\"@type\" of \"body\" is \"" ++ url ++ codes "\", and not \"typeUrl\""

-- what is told of a body that stands in no write, by what it is as a resource
abbrev pub body_text : TypeName → Option Text → Result NamedBody Refusal → Text
body_text t url (Ok r) = codes "\"body\" has another name than \"name\", or \"groups\" can't be"
body_text t url (Err e) = refused_text t url e

-- what is told of a write whose fields can be read and that is none, by its body
abbrev pub unwritten_text : TypeName → Option Data → Text
unwritten_text t None = codes "\"groups\" are those of a write without \"body\", which has none"
unwritten_text t (Some body) = body_text t (option_and_then as_str (get (codes "@type") body)) (from_value t body)

-- a text spells a write
abbrev pub IsWrite : Text → Type 0
IsWrite json = (d : Data) × (t : TypeName) × (w : StampedWrite) × IsJson json d × SpellsWrite d t w

-- a test is true where something is so, and else false
abbrev pub Spells : Type 0 → Bool → Type 0
Spells Is true = Is
Spells Is false = Is → ⊥

-- what is told of a write of a known type whose fields can be read
abbrev pub IsBodyTold : Text → Data → TypeName → Text → Type 0
IsBodyTold json d t told =
    (IsWrite json × (told ≡ [])) ⊎ ((IsWrite json → ⊥) × (told ≡ unwritten_text t (set_value (field (codes "body") (codes "body") d))))

-- what is told of a write whose fields can be read, by its type URL
abbrev pub IsUrlTold : Text → Data → Text → Option TypeName → Text → Type 0
IsUrlTold json d url None told = told ≡ near_text url (type_near url)
IsUrlTold json d url (Some t) told = IsBodyTold json d t told

abbrev pub IsWriteTold : Text → Data → Option Text → Text → Type 0
IsWriteTold json d None told = told ≡ codes "there is no \"typeUrl\": a text"
IsWriteTold json d (Some url) told = IsUrlTold json d url (type_of_url url) told

-- ---- messages

-- what is told of a message whose fields can be read
abbrev pub IsRestTold : Text → Data → Message → Text → Type 0
IsRestTold json d messages.Write told = IsWriteTold json d (option_and_then as_str (get (codes "typeUrl") d)) told
IsRestTold json d messages.Request told = told ≡ request_text (url_of d)
IsRestTold json d messages.DeltaRequest told = told ≡ []
IsRestTold json d messages.Response told = told ≡ response_text (codes "\"resources\" has one that is no resource of its \"typeUrl\"") d
IsRestTold json d messages.DeltaResponse told =
    told ≡ response_text (codes "\"resources\" has one that isn't an object with a \"resource\" of its \"typeUrl\"") d

-- what is told of a message, by its first field that can't be read
abbrev pub IsFieldTold : Text → Data → Message → Option Wanted → Text → Type 0
IsFieldTold json d m None told = IsRestTold json d m told
IsFieldTold json d m (Some w) told = told ≡ field_text w d

-- what is told of a JSON value that is to be a message
abbrev pub IsObjectTold : Text → Data → Message → Text → Type 0
IsObjectTold json d m told =
    ((is_some (as_object d) ≡ false) × (told ≡ codes "no JSON object"))
    ⊎ ((is_some (as_object d) ≡ true) × ((o : Option Wanted) × IsFirstWrong (fields_of m) d o × IsFieldTold json d m o told))

-- what is told of a text that is to be a message
abbrev pub IsMessageTold : Text → Message → Text → Type 0
IsMessageTold json m told =
    (((d : Data) → IsJson json d → ⊥) × ((column : ℕ) × (told ≡ not_json_text column)))
    ⊎ ((d : Data) × IsJson json d × IsObjectTold json d m told)
