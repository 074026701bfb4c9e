-- How a session's request and its response are made: the answers of the functions that make them. This project's own.
--     account_after   the account after a request
--     account_taken   the same of the first request or of a later one
--     session_taken   the session after a request that is taken
--     nothing_said    nothing is said yet
--     said            what is said, with what an offer says of a name
--     said_all        and so with each of some names
use Rattle.std.specs.Prelude.{ℕ, List, [], ◌∷◌, ◌++◌, Bool, is_some, if◌then◌else◌}
use Rattle.std.specs.Option.{option_map_or}
use Rattle.std.specs.FinMap as finmap
use Rattle.std.specs.FinSet as set
use Rattle.xds_resource.specs.declared.types.TypeName.{TypeName}
use Rattle.xds_resource.specs.Writes.{text_cmp}
use Rattle.xds_interest.specs.Interests.{Selection}
use Rattle.xds_interest.specs.Asked.{delta_asked}
use Rattle.xds_interest.specs.Touches.{Touch, delta_touch}
use Rattle.xds_catalogue.specs.Holdings.{Entries}
use Rattle.xds_message.specs.DeltaMessages.{DeltaRequest}
use Rattle.xds_message.specs.Drafts.{with_resource}
use Rattle.xds_ledger.specs.declared.variant.VariantName.TheVariants.{Delta}
use Rattle.xds_ledger.specs.declared.entry.Due.{Due}
use Rattle.xds_ledger.specs.declared.entry.Due.TheVariants.{Stated, Removed}
use Rattle.xds_ledger.specs.Ledgers.{Account, settled, touch, resume}
use Rattle.xds_ledger.specs.Sessions.{Session}
use Rattle.xds_sessions.specs.DeltaPolls.{Said, mention}

-- the account after a request: its interest, what it touches and mentions, and the versions that it resumes from
abbrev pub account_after : TypeName → Account → DeltaRequest → Selection → Touch → set.FinSet text_cmp → finmap.FinMap text_cmp (List ℕ) → Account
account_after t a m s touched mentioned versions = resume (touch (settled Delta t a m.response_nonce (is_some m.error_detail)) s touched mentioned) versions

-- the same of the first request or of a later one
abbrev pub account_taken : TypeName → Bool → Account → DeltaRequest → Selection → Touch → Account
account_taken t begun a m s touched = account_after t a m s touched (if begun then touched.names else s.names) (if begun then finmap.empty else m.initial_resource_versions)

-- the session after a request that is taken
abbrev pub session_taken : TypeName → Session → DeltaRequest → Session
session_taken t s m =
    let asked = delta_asked t s.asked (mention m) in
    record { asked = asked; account = account_taken t s.asked.begun s.account m asked.interest (delta_touch t (mention m)) }

-- nothing is said yet
abbrev pub nothing_said : Said
nothing_said = record { resources = []; removed = [] }

-- what is said, with what an offer says of a name
abbrev pub said : Entries → Said → List ℕ → Due → Said
said m d name (Stated version) = option_map_or (λ w. record d { resources = with_resource d.resources w w.body }) (finmap.get m name) d
said m d name Removed = record d { removed = d.removed ++ name ∷ [] }

-- and so with each of some names
abbrev pub said_all : Entries → Said → List (List ℕ × Due) → Said
said_all m d [] = d
said_all m d (e ∷ es) = said_all m (said m d e.0 e.1) es
