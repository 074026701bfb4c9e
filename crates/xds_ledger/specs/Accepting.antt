-- What is believed once a response is accepted, by its offer itself and what requests touched since: the answers of the functions
-- that find it. This project's own.
--     is_named_since   whether a request touched the name by itself since the response was sent
--     left_since       what is believed of a name that was touched since, once the response is accepted
--     change_since     the difference that such a name makes from what the offer tells, if it makes one
--     beside           the difference that a believed name makes of which the offer says nothing
--     kept_beside      the differences that these make, where the response isn't the whole
use Rattle.std.specs.Prelude.{ℕ, List, Bool, true, false, Option, Some, None, is_some, option_map, if◌then◌else◌}
use Rattle.std.specs.List.{list_any}
use Rattle.std.specs.FinMap as finmap
use Rattle.std.specs.FinSet as set
use Rattle.xds_ledger.specs.declared.entry.Entry.{Entry}
use Rattle.xds_ledger.specs.Owed.{Beliefs}
use Rattle.xds_resource.specs.Names.{put_all}
use Rattle.xds_ledger.specs.Believing.{Sent, believed_accepted}
use Rattle.xds_ledger.specs.Overlay.{Differences}

-- whether a request touched the name by itself since the response was sent
abbrev pub is_named_since : Sent → List ℕ → Bool
is_named_since sent name = list_any (λ t. set.contains t.names name) sent.touched

-- what is believed of a name that was touched since, once the response is accepted
abbrev pub left_since : Sent → Beliefs → List ℕ → Option Entry
left_since sent beliefs name = believed_accepted false true (finmap.get sent.offer name) (finmap.get beliefs name)

-- the difference that such a name makes from what the offer tells, if it makes one
abbrev pub change_since : Sent → Beliefs → List ℕ → Option (Option Entry)
change_since sent beliefs name = option_map Some (left_since sent beliefs name)

-- the difference that a believed name makes of which the offer says nothing
abbrev pub beside : Sent → List ℕ → Entry → Option (Option Entry)
beside sent name entry = if is_some (finmap.get sent.offer name) then None else Some (Some entry)

-- rule: accept-reject, rule: whole-response
-- the differences that these make, where the response isn't the whole
abbrev pub kept_beside : Bool → Sent → Beliefs → Differences
kept_beside whole sent beliefs = if whole then finmap.empty else put_all (beside sent) finmap.empty (finmap.entries beliefs)
