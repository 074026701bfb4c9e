-- What is printed of a client's view and of a replica's content. This project's own.
--     none_text                        what is printed of a client or a replica that isn't there
--     holding_line                     a resource that a client holds, with its version where the client was told one
--     holding_lines                    the lines of what a client holds, in the order of names
--     view_head                        the first line of a view
--     view_text                        a view with its lines
--     state_of                         the word for whether a client polls, or is up, and settled of a type
--     state_word                       how a client stands to a type
--     view_shown                       what is printed of a client's view of a type
--     write_line                       the line of a write in a content
--     write_lines                      the lines of a content
--     content_head                     the first line of a content
--     content_text                     the live ones of these writes
--     content_shown                    what is printed of a replica's content of a type
use Rattle.std.specs.Prelude.{ℕ, List, [], ◌++◌, length, Bool, if◌then◌else◌, codes, decimal, unwrap_or, filter}
use Rattle.std.specs.List.{flat_map}
use Rattle.std.specs.Option.{option_map_or}
use Rattle.std.specs.FinMap as finmap
use Rattle.xds_resource.specs.declared.types.TypeName.{TypeName}
use Rattle.xds_resource.specs.Types.{row}
use Rattle.xds_resource.specs.PerType.{at}
use Rattle.xds_resource.specs.Writes.{StampedWrite, version_of}
use Rattle.xds_catalogue.specs.Holdings.{Holdings}
use Rattle.xds_catalogue.specs.Content.{is_live}
use Rattle.xds_cache.specs.Shelves.{Cache, Holding}
use Rattle.xds_cache.specs.Clients as clients
use Rattle.xds_script.specs.declared.event.ClientKind.{ClientKind}
use Rattle.xds_script.specs.declared.event.ClientKind.TheVariants as kinds
use Rattle.xds_world.specs.Worlds.{World, Peer}
use Rattle.xds_world.specs.Claims.{is_settled}
use Rattle.xds_world.specs.declared.peer.PeerStatus.{PeerStatus}
use Rattle.xds_world.specs.declared.peer.PeerStatus.TheVariants.{Up, Down, Rest}
use Rattle.xds_world.specs.Statuses.{status_of}

-- what is printed of a client or a replica that isn't there
abbrev pub none_text : List ℕ
none_text = codes "none\n"

-- ---- views

-- a resource that a client holds, with its version where the client was told one
abbrev pub holding_line : ClientKind → Holding → List ℕ
holding_line kinds.Sotw h = h.body ++ codes "\n"
holding_line kinds.Rest h = h.body ++ codes "\n"
holding_line kinds.Delta h = h.version ++ codes " " ++ h.body ++ codes "\n"

-- what a client holds, in the order of names
abbrev pub holding_lines : ClientKind → List Holding → List ℕ
holding_lines kind held = flat_map (holding_line kind) held

abbrev pub view_head : ℕ → TypeName → List ℕ → ℕ → List ℕ
view_head client t state count = codes "view " ++ decimal client ++ codes " " ++ (row t).word ++ codes " " ++ state ++ codes " " ++ decimal count ++ codes "\n"

abbrev pub view_text : ℕ → TypeName → List ℕ → ClientKind → Cache → List ℕ
view_text client t state kind view = view_head client t state (length (finmap.values view)) ++ holding_lines kind (finmap.values view)

-- the word for whether a client polls, or is up, and settled of a type
abbrev pub state_of : PeerStatus → Bool → List ℕ
state_of Down settled = codes "down"
state_of Rest settled = codes "rest"
state_of Up settled = if settled then codes "settled" else codes "open"

-- how a client stands to a type
abbrev pub state_word : World → ℕ → TypeName → Peer → List ℕ
state_word w client t p = state_of (status_of p) (is_settled w client t)

-- what is printed of a client's view of a type
abbrev pub view_shown : World → ℕ → TypeName → List ℕ
view_shown w client t = option_map_or (λ p. view_text client t (state_word w client t p) p.kind (clients.view p.client t)) (finmap.get w.peers client) none_text

-- ---- content

abbrev pub write_line : StampedWrite → List ℕ
write_line w = version_of w ++ codes " " ++ unwrap_or w.body [] ++ codes "\n"

abbrev pub write_lines : List StampedWrite → List ℕ
write_lines writes = flat_map write_line writes

abbrev pub content_head : ℕ → TypeName → ℕ → List ℕ
content_head replica t count = codes "content " ++ decimal replica ++ codes " " ++ (row t).word ++ codes " " ++ decimal count ++ codes "\n"

-- the live ones of these writes
abbrev pub content_text : ℕ → TypeName → List StampedWrite → List ℕ
content_text replica t writes = content_head replica t (length (filter is_live writes)) ++ write_lines (filter is_live writes)

-- what is printed of a replica's content of a type
abbrev pub content_shown : World → ℕ → TypeName → List ℕ
content_shown w replica t = option_map_or (λ s. content_text replica t (finmap.values (at {X = Holdings} s.core.store t).entries)) (finmap.get w.sites replica) none_text
