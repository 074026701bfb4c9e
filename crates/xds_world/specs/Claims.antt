-- What the headline says: when a client is settled, and that it shows then exactly what its replica knows. This project's own.
--     asks_for                      whether a request is of the type
--     is_quiet                      whether nothing of the type is under way, either way
--     owes_nothing                  whether a replica owes nothing of the type on a stream
--     is_settled_on                 whether a client is settled of a type on its link
--     is_settled                    whether a client is settled of a type
--     holding_of                    what is held of a write that puts a resource
--     shown_of                      what is held of a write of a name
--     content_at                    what a client of a cluster that wants these is to show of a name
--     IsExact                       a view shows exactly what is covered of what is live
--     body_at                       state of the world tells no version of a single resource
--     IsExactByBody                 the same, compared by bodies
--     Agrees                        a view shows what is covered of what is live, and nothing that isn't wanted
--     Shows                         what a client shows that learns of what is gone by a whole answer alone
--     TakesAll                      a client's test takes what the client is to show of these writes
--     PutResources                  so it is of each of some happenings
--     HoldsWhatItKnows              the replicas' half: what a replica holds are the best writes of what it knows
--     SettledIsExact                the clients' half, for delta clients
--     SettledAgrees                 and for clients of the state of the world
--     IsPoll                        a poll among what happened
--     is_rejected                   whether an outcome says why an answer is rejected
--     is_rejected_by                whether a client rejects the answer that a replica gave
--     rejects                       whether a client rejects what a replica answers to its poll of a type
--     PolledIsExact                 after a poll whose answer came and wasn't rejected
--     PolledIsTaken                 what is polled is rejected only where the client's test refuses something of it
--     LostLeavesTheView             an answer that is lost or rejected changes nothing of what the client shows
--     PollersHaveNoStream           a client that polls has no stream
--     PollsArePossible              a client that polls and wants something of a type may poll any replica for it
--     SameKnowledgeSameHoldings     replicas that know the same writes hold the same
--     all_made                      all writes that were made
--     OneWriteAStamp                what is known was made somewhere, and a stamp names one write of a type
--     JournalsAreLegal              each replica's journal is legal from a replica at which nothing happened
--     JournalsTellAll               each replica's journal tells exactly what happened there
--     LinksAreFollowed              a client's link, cluster and wants
--     Headline                      the headline, of one list of happenings
use Rattle.std.specs.Prelude.{◌≡◌, ◌⊎◌, ◌↔◌, ℕ, List, [], ◌∷◌, ◌++◌, map, Bool, true, false, ◌&&◌, not, if◌then◌else◌, bytes_eq, Option, Some, None, is_some, IsSome, option_map, Ok, Err, ⊤}
use Rattle.std.specs.Option.{option_map_or, option_and_then}
use Rattle.std.specs.List.{Contains, list_any}
use Rattle.std.specs.FinMap as finmap
use Rattle.xds_resource.specs.declared.types.TypeName.{TypeName}
use Rattle.xds_resource.specs.Types.{row, is_same_type}
use Rattle.xds_resource.specs.PerType.{at}
use Rattle.xds_resource.specs.Resources.{value_of}
use Rattle.xds_resource.specs.Best.{best}
use Rattle.xds_resource.specs.Writes.{StampedWrite, version_of}
pub use Rattle.xds_resource.specs.TypedWrites.{writes_of}
use Rattle.xds_interest.specs.Interests.{Selection, covers}
use Rattle.xds_catalogue.specs.Holdings.{catalogue_of}
use Rattle.xds_message.specs.DraftTexts.{kind_of}
use Rattle.xds_message.specs.Drafts.{message_of}
use Rattle.xds_core.specs.Events as events
use Rattle.xds_core.specs.Events.{Reply}
use Rattle.xds_core.specs.Streams.{Message, url_of, owes_of}
use Rattle.xds_core.specs.Steps.{fresh as fresh_core}
use Rattle.xds_core.specs.Legal.{IsLegal, replayed}
use Rattle.xds_cache.specs.Shelves.{Cache, Holding, Wants, interest, is_wanted, wants_some}
use Rattle.xds_cache.specs.Clients as clients
use Rattle.xds_cache.specs.Faults.{Test}
use Rattle.xds_cache.specs.Receives.{Outcome}
use Rattle.xds_cache.specs.Rest.{rest_receive}
use Rattle.xds_script.specs.declared.event.ClientKind.TheVariants.{Sotw, Delta, Rest}
use Rattle.xds_script.specs.declared.event.AnswerFate.{AnswerFate}
use Rattle.xds_script.specs.declared.event.AnswerFate.TheVariants.{Arrives, Lost}
use Rattle.xds_script.specs.Happenings.{Happening, RestPoll, PutsAResource}
use Rattle.xds_world.specs.Worlds.{World, Site, Peer, Link, empty_world, world, at_site, poll_of, poll_event, happens}
use Rattle.xds_world.specs.Knows.{TypedWrite, knows, wants, cluster, link, made_after}
use Rattle.xds_world.specs.Journal.{events_at}

-- ---- settled

abbrev pub asks_for : TypeName → Message → Bool
asks_for t m = bytes_eq (url_of m) (row t).url

-- whether nothing of the type is under way, either way
abbrev pub is_quiet : TypeName → Link → Bool
is_quiet t l = not (list_any (asks_for t) l.up) && not (list_any (λ d. is_same_type (kind_of d) t) l.down)

-- whether a replica owes nothing of the type on a stream
abbrev pub owes_nothing : TypeName → ℕ → Site → Bool
owes_nothing t stream s = option_map_or (λ x. not (owes_of s.core.store x t)) (finmap.get s.core.streams stream) false

abbrev pub is_settled_on : World → TypeName → Link → Bool
is_settled_on w t l = is_quiet t l && option_map_or (owes_nothing t l.stream) (finmap.get w.sites l.replica) false

-- Whether a client is settled of a type: it is up, nothing of the type is under way, and its replica owes it nothing of the type.
abbrev pub is_settled : World → ℕ → TypeName → Bool
is_settled w c t = option_map_or (λ p. option_map_or (is_settled_on w t) p.link false) (finmap.get w.peers c) false

-- ---- exact

-- what is held of a write that puts a resource
abbrev pub holding_of : StampedWrite → Option Holding
holding_of w = option_map (λ body. record { version = version_of w; body = body }) w.body

-- rule: star-covers, rule: groups
-- what is held of a write of a name, where an interest covers the name in the write's groups
abbrev pub shown_of : Selection → List ℕ → StampedWrite → Option Holding
shown_of s name w = if covers s name w.groups then holding_of w else None

-- rule: groups
-- what a client of a cluster that wants these is to show of a name: the greatest write of it, if that puts a resource and is covered
abbrev pub content_at : TypeName → List StampedWrite → List ℕ → Wants → List ℕ → Option Holding
content_at t ws cluster w name = option_and_then (shown_of (interest t cluster w) name) (best ws name)

-- a view shows exactly what is covered of what is live
abbrev pub IsExact : TypeName → List StampedWrite → List ℕ → Wants → Cache → Type 0
IsExact t ws cluster w view = (name : List ℕ) → finmap.get view name ≡ content_at t ws cluster w name

-- State of the world tells no version of a single resource, so there a view is compared by its bodies.
abbrev pub body_at : Cache → List ℕ → Option (List ℕ)
body_at view name = option_map (λ h. h.body) (finmap.get view name)

-- the same, compared by bodies
abbrev pub IsExactByBody : TypeName → List StampedWrite → List ℕ → Wants → Cache → Type 0
IsExactByBody t ws cluster w view = (name : List ℕ) → body_at view name ≡ option_map (λ h. h.body) (content_at t ws cluster w name)

-- a view shows what is covered of what is live, and nothing that isn't wanted; what isn't live any more may be there, too
abbrev pub Agrees : TypeName → List StampedWrite → List ℕ → Wants → Cache → Type 0
Agrees t ws cluster w view =
    ((name : List ℕ) (h : Holding) → content_at t ws cluster w name ≡ Some h → body_at view name ≡ Some h.body) × ((name : List ℕ) → is_wanted t w name ≡ false → finmap.get view name ≡ None)

-- what a client shows that learns of what is gone by a whole answer alone: of a complete type exactly what is covered by body, of
-- another what may remain, too
abbrev pub Shows : TypeName → List StampedWrite → List ℕ → Wants → Cache → Type 0
Shows t ws cluster w view = ((row t).is_complete ≡ true → IsExactByBody t ws cluster w view) × Agrees t ws cluster w view

-- that a client's test takes what the client is to show of these writes where it is of this cluster and wants these
abbrev pub TakesAll : Test → TypeName → List StampedWrite → List ℕ → Wants → Type 0
TakesAll test t ws cluster w = (name : List ℕ) (h : Holding) → content_at t ws cluster w name ≡ Some h → test (row t).url name (value_of h.body) ≡ true

-- ---- what is put

abbrev pub PutResources : List Happening → Type 0
PutResources [] = ⊤
PutResources (h ∷ hs) = PutsAResource h × PutResources hs

-- ---- the headline

-- rule: greatest-write
-- the replicas' half: what a replica holds are the best writes of what it knows
abbrev pub HoldsWhatItKnows : Test → List Happening → Type 0
HoldsWhatItKnows test hs = (r : ℕ) (s : Site) (t : TypeName) → finmap.get (world test hs).sites r ≡ Some s → (at s.core.store t).entries ≡ catalogue_of (writes_of t (knows test hs r))

-- the clients' half, for delta clients
abbrev pub SettledIsExact : Test → List Happening → Type 0
SettledIsExact test hs =
    (c r : ℕ) (p : Peer) (t : TypeName) → finmap.get (world test hs).peers c ≡ Some p → p.kind ≡ Delta → link test hs c ≡ Some r → is_settled (world test hs) c t ≡ true
    → IsExact t (writes_of t (knows test hs r)) (cluster test hs c) (wants test hs c t) (clients.view p.client t)

-- and for clients of the state of the world: of a complete type exactly, of another with what may remain
abbrev pub SettledAgrees : Test → List Happening → Type 0
SettledAgrees test hs =
    (c r : ℕ) (p : Peer) (t : TypeName) → finmap.get (world test hs).peers c ≡ Some p → p.kind ≡ Sotw → link test hs c ≡ Some r → is_settled (world test hs) c t ≡ true
    → Shows t (writes_of t (knows test hs r)) (cluster test hs c) (wants test hs c t) (clients.view p.client t)

-- ---- polls

-- A poll among what happened: what came before it, the client then, and the client after it.
pub record IsPoll (test : Test) (hs : List Happening) (c r : ℕ) (t : TypeName) (answer : AnswerFate) : Type 0 where
  pub before : List Happening
  pub rest : List Happening
  pub among : hs ≡ before ++ RestPoll c r t answer ∷ rest
  pub left : World
  pub possible : happens test (world test before) (RestPoll c r t answer) ≡ Some left
  pub polling : Peer
  pub asks : finmap.get (world test before).peers c ≡ Some polling
  pub polled : Peer
  pub has : finmap.get left.peers c ≡ Some polled

-- whether an outcome says why an answer is rejected
abbrev pub is_rejected : Outcome (Option (List ℕ)) → Bool
is_rejected (Ok p) = is_some p.1
is_rejected (Err refusal) = false

abbrev pub is_rejected_by : Test → Peer → TypeName → Reply × World → Bool
is_rejected_by test p t (events.Rested d, w) = is_rejected (rest_receive test p.client t (option_map message_of d))
is_rejected_by test p t (reply, w) = false

-- Whether a client rejects what a replica answers to its poll of a type. It doesn't reject that nothing changed.
abbrev pub rejects : Test → World → ℕ → ℕ → TypeName → Bool
rejects test w c r t = option_map_or (λ p. option_map_or (λ q. option_map_or (is_rejected_by test p t) (at_site w r (poll_event t q)) false) (poll_of p t) false) (finmap.get w.peers c) false

-- rule: not-modified
-- after a poll whose answer came and wasn't rejected, or was that nothing changed, the client shows what the replica knew then
abbrev pub PolledIsExact : Test → List Happening → Type 0
PolledIsExact test hs =
    (c r : ℕ) (t : TypeName) (x : IsPoll test hs c r t Arrives) → rejects test (world test x.before) c r t ≡ false
    → Shows t (writes_of t (knows test x.before r)) (cluster test x.before c) (wants test x.before c t) (clients.view x.polled.client t)

-- rule: whole-or-nothing
-- what comes is rejected only where the client's test refuses something that the client is to show
abbrev pub PolledIsTaken : Test → List Happening → Type 0
PolledIsTaken test hs =
    (c r : ℕ) (t : TypeName) (x : IsPoll test hs c r t Arrives) → TakesAll test t (writes_of t (knows test x.before r)) (cluster test x.before c) (wants test x.before c t)
    → rejects test (world test x.before) c r t ≡ false

-- rule: whole-or-nothing
-- an answer that is lost or rejected changes nothing of what the client shows
abbrev pub LostLeavesTheView : Test → List Happening → Type 0
LostLeavesTheView test hs =
    (c r : ℕ) (t : TypeName) (answer : AnswerFate) (x : IsPoll test hs c r t answer) → (answer ≡ Lost) ⊎ (rejects test (world test x.before) c r t ≡ true)
    → (u : TypeName) → clients.view x.polled.client u ≡ clients.view x.polling.client u

-- a client that polls has no stream
abbrev pub PollersHaveNoStream : Test → List Happening → Type 0
PollersHaveNoStream test hs = (c : ℕ) (p : Peer) → finmap.get (world test hs).peers c ≡ Some p → p.kind ≡ Rest → p.link ≡ None

-- a client that polls and wants something of a type may poll any replica for it, whatever it knows
abbrev pub PollsArePossible : Test → List Happening → Type 0
PollsArePossible test hs =
    (c r : ℕ) (p : Peer) (s : Site) (t : TypeName) (answer : AnswerFate) → finmap.get (world test hs).peers c ≡ Some p → p.kind ≡ Rest → wants_some (wants test hs c t) ≡ true → finmap.get (world test hs).sites r ≡ Some s
    → IsSome (happens test (world test hs) (RestPoll c r t answer))

-- ---- replicas, stamps, journals

-- rule: greatest-write
-- replicas that know the same writes hold the same, whatever came in which order and how often
abbrev pub SameKnowledgeSameHoldings : Test → List Happening → Type 0
SameKnowledgeSameHoldings test hs =
    (r q : ℕ) (a b : Site) (t : TypeName) → finmap.get (world test hs).sites r ≡ Some a → finmap.get (world test hs).sites q ≡ Some b
    → ((w : StampedWrite) → Contains (writes_of t (knows test hs r)) w ↔ Contains (writes_of t (knows test hs q)) w) → (at a.core.store t).entries ≡ (at b.core.store t).entries

-- all writes that were made
abbrev pub all_made : Test → List Happening → List TypedWrite
all_made test hs = made_after test empty_world [] hs

-- rule: new-numbers
-- what is known was made somewhere, and a stamp names one write of a type
abbrev pub OneWriteAStamp : Test → List Happening → Type 0
OneWriteAStamp test hs =
    ((r : ℕ) (x : TypedWrite) → Contains (knows test hs r) x → Contains (all_made test hs) x)
    × ((x y : TypedWrite) → Contains (all_made test hs) x → Contains (all_made test hs) y → x.0 ≡ y.0 → x.1.counter ≡ y.1.counter → x.1.writer ≡ y.1.writer → x ≡ y)

-- each replica's journal is legal from a replica at which nothing happened, and what the replica is now is what it leaves
abbrev pub JournalsAreLegal : Test → List Happening → Type 0
JournalsAreLegal test hs = (r : ℕ) (s : Site) → finmap.get (world test hs).sites r ≡ Some s → IsLegal (fresh_core r) s.journal × (replayed (fresh_core r) s.journal ≡ s.core)

-- each replica's journal tells exactly what happened there: its events are those of the list, one for one and in order
abbrev pub JournalsTellAll : Test → List Happening → Type 0
JournalsTellAll test hs = (r : ℕ) (s : Site) → finmap.get (world test hs).sites r ≡ Some s → map (λ x. x.event) s.journal ≡ events_at test hs r

-- a client's link, cluster and wants, as the list of happenings tells them, are those that it has
abbrev pub LinksAreFollowed : Test → List Happening → Type 0
LinksAreFollowed test hs =
    (c : ℕ) (p : Peer) → finmap.get (world test hs).peers c ≡ Some p → (link test hs c ≡ option_map (λ l. l.replica) p.link) × (cluster test hs c ≡ p.client.cluster) × ((t : TypeName) → wants test hs c t ≡ (clients.shelf p.client t).wants)

-- The headline, of one list of happenings: what replicas hold, what settled clients of both variants show, what clients show that
-- polled, and that what is told of links, clusters, wants, stamps and journals is so.
pub record Headline (test : Test) (hs : List Happening) : Type 0 where
  pub holds : HoldsWhatItKnows test hs
  pub same : SameKnowledgeSameHoldings test hs
  pub exact : SettledIsExact test hs
  pub agrees : SettledAgrees test hs
  pub followed : LinksAreFollowed test hs
  pub stamped : OneWriteAStamp test hs
  pub journals : JournalsAreLegal test hs
  pub told : JournalsTellAll test hs
  pub polled : PolledIsExact test hs
  pub taken : PolledIsTaken test hs
  pub lost : LostLeavesTheView test hs
  pub possible : PollsArePossible test hs
  pub streamless : PollersHaveNoStream test hs
