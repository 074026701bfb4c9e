-- That a wake covers all who may be owed something. This project's own.
--     HoldsCatalogues     each write stands under its own name, of each type
--     IsOrderly           of a replica that; and its open streams have numbers that were given
--     ReplicasAreOrderly  every replica is so, from its beginning on
--     has_asked           whether a stream has asked for something of a type
--     Wants               a concern covers all that a stream asked for
--     OnlyReachedWritesCount  a stream is owed something else, or sent something else, by a write alone of a name that it reaches
--     WakesCoverTheOwed   who is owed something by a write, and wasn't before, asked for a resource that is written
--     WakesCoverTheDue    the same of who is due a response, in the words of the wait for it
--     CoversWrites        all that an event writes is covered
--     after_all           what a replica is after these events
--     HappenElsewhere     none of these events is one of this stream
--     WakesCoverTheHeld   who is due a response by what was written meanwhile is woken by all of that together
--     IsNextWants         what a stream wants once an event happened at it
--     WantsCoverRequests  what a stream wants covers all that its requests asked for, whatever happens
--     WantsBegin          a stream that opens wants nothing, and all of whatever is said to want all
use Rattle.std.specs.Prelude.{◌≡◌, ◌≢◌, ◌⊎◌, ℕ, ◌≤◌, List, [], ◌∷◌, ⊤, Bool, true, false, ◌&&◌, Some, is_some, Ok}
use Rattle.std.specs.List.{list_any, AllByRecursion}
use Rattle.std.specs.FinMap as finmap
use Rattle.xds_resource.specs.declared.types.TypeName.{TypeName}
use Rattle.xds_resource.specs.PerType.{at, each}
use Rattle.xds_interest.specs.Interests.{reaches}
use Rattle.xds_catalogue.specs.Holdings.{IsCatalogue}
use Rattle.xds_core.specs.Events as events
use Rattle.xds_core.specs.Events.{Event, Reply}
use Rattle.xds_core.specs.Laws.{is_write, stream_changed}
use Rattle.xds_core.specs.Legal.{after}
use Rattle.xds_core.specs.Steps.{Core, fresh, step}
use Rattle.xds_core.specs.Stores.{Store}
use Rattle.xds_core.specs.Streams.{Stream, opening, owes_of, to_send}
use Rattle.xds_node.specs.Concerns.{set_of, written_names, writes, covers, IsInBoth, IsConcernOf, IsJoined, may_meet}
use Rattle.xds_node.specs.Wakes.{due_at}
use Rattle.xds_node.specs.declared.node.concern.Concern.{Concern}

-- each write stands under its own name, of each type
abbrev pub HoldsCatalogues : Store → Type 0
HoldsCatalogues store = (t : TypeName) → IsCatalogue (at store t).entries

-- Each write stands under its own name, of each type, and the open streams have numbers that were given.
pub record IsOrderly (c : Core) : Type 0 where
  pub catalogues : HoldsCatalogues c.store
  pub numbered : (n : ℕ) (s : Stream) → finmap.get c.streams n ≡ Some s → n ≤ c.opened

-- A replica at which nothing happened is so, and each event leaves it so.
abbrev pub ReplicasAreOrderly : Type 0
ReplicasAreOrderly = ((replica : ℕ) → IsOrderly (fresh replica)) × ((c later : Core) (e : Event) (reply : Reply) → step c e ≡ Ok (reply, later) → IsOrderly c → IsOrderly later)

-- whether a stream has asked for something of a type
abbrev pub has_asked : Stream → TypeName → Bool
has_asked s t = is_some s.variant && (at s.sessions t).asked.begun

-- rule: wake-ups
-- A concern covers all that a stream asked for. A type that the stream didn't ask for yet is none of its types, or it has all of that.
pub record Wants (c : Concern) (s : Stream) : Type 0 where
  pub names : (t : TypeName) (name : List ℕ) → reaches (at s.sessions t).asked.interest name ≡ true → covers c t name ≡ true
  pub first : (t : TypeName) → has_asked s t ≡ false → (at (set_of c.types) t ≡ false) ⊎ ((name : List ℕ) → covers c t name ≡ true)

-- ---- writes

-- rule: wake-ups, rule: owed
-- Where no name of a type that an event writes is reached by what a stream asked for, the stream is owed of the type what it was owed
-- before, and is sent the same.
abbrev pub OnlyReachedWritesCount : Type 0
OnlyReachedWritesCount = (c later : Core) (e : Event) (reply : Reply) (s : Stream) (t : TypeName) → HoldsCatalogues c.store → step c e ≡ Ok (reply, later)
    → list_any (reaches (at s.sessions t).asked.interest) (written_names e t) ≡ false
    → (owes_of later.store s t ≡ owes_of c.store s t) × (to_send later.store s t ≡ to_send c.store s t)

-- rule: wake-ups, rule: owed
-- A stream that is owed something of a type after an event, and was owed nothing of it before, asked for a resource of the type that the
-- event writes. So that is in both, in each concern of the event and in each that covers what the stream asked for.
abbrev pub WakesCoverTheOwed : Type 0
WakesCoverTheOwed = (c later : Core) (e : Event) (reply : Reply) (s : Stream) (t : TypeName) (written wants : Concern) → HoldsCatalogues c.store → step c e ≡ Ok (reply, later)
    → IsConcernOf e written → Wants wants s → owes_of c.store s t ≡ false → owes_of later.store s t ≡ true → (name : List ℕ) × IsInBoth written wants t name

-- rule: wake-ups
-- A stream to which a response is due after a write, and was none before, is one that the write wakes: the concern of the write and that
-- of the stream may meet.
abbrev pub WakesCoverTheDue : Type 0
WakesCoverTheDue = (c later : Core) (e : Event) (reply : Reply) (n : ℕ) (s : Stream) (written wants : Concern) → HoldsCatalogues c.store → is_write e ≡ true → step c e ≡ Ok (reply, later)
    → finmap.get c.streams n ≡ Some s → IsConcernOf e written → Wants wants s → due_at c n ≡ Some false → due_at later n ≡ Some true → may_meet written wants ≡ true

-- all that an event writes is covered
abbrev pub CoversWrites : Concern → Event → Type 0
CoversWrites written e = (t : TypeName) (name : List ℕ) → writes e t name ≡ true → covers written t name ≡ true

-- what a replica is after these events
abbrev pub after_all : Core → List Event → Core
after_all c [] = c
after_all c (e ∷ es) = after_all (after c e) es

-- none of these events is one of this stream
abbrev pub HappenElsewhere : ℕ → Core → List Event → Type 0
HappenElsewhere n c [] = ⊤
HappenElsewhere n c (e ∷ es) = (stream_changed c e ≢ Some n) × HappenElsewhere n (after c e) es

-- rule: wake-ups
-- A stream to which a response is due after what happened while writers were held back, and was none before, is one that all of that
-- together wakes: a concern that covers all that was written meanwhile, and that of the stream, may meet.
abbrev pub WakesCoverTheHeld : Type 0
WakesCoverTheHeld = (c : Core) (es : List Event) (n : ℕ) (s : Stream) (written wants : Concern) → HoldsCatalogues c.store → HappenElsewhere n c es → AllByRecursion (CoversWrites written) es
    → finmap.get c.streams n ≡ Some s → Wants wants s → due_at c n ≡ Some false → due_at (after_all c es) n ≡ Some true → may_meet written wants ≡ true

-- ---- requests

-- rule: wake-ups
-- What a stream wants once an event happened at its replica: after a request of its own it wants what that asks for, too.
abbrev pub IsNextWants : ℕ → Event → Concern → Concern → Type 0
IsNextWants n events.Open wants next = next ≡ wants
IsNextWants n (events.Request k m) wants next = (k ≡ n → (asked : Concern) × IsConcernOf (events.Request k m) asked × IsJoined wants asked next) × (k ≢ n → next ≡ wants)
IsNextWants n (events.Poll k which) wants next = next ≡ wants
IsNextWants n (events.Owes k which) wants next = next ≡ wants
IsNextWants n (events.Close k) wants next = next ≡ wants
IsNextWants n (events.Put t r groups) wants next = next ≡ wants
IsNextWants n (events.Delete t name) wants next = next ≡ wants
IsNextWants n (events.Merge b) wants next = next ≡ wants
IsNextWants n events.Snapshot wants next = next ≡ wants
IsNextWants n (events.Rest t names version cluster) wants next = next ≡ wants
IsNextWants n (events.Since marks) wants next = next ≡ wants

-- rule: wake-ups
-- What a stream wants covers all that its requests asked for, whatever happens: names, the star, lists of the state of the world without
-- names, and first requests without names. Names that it takes back, and requests that are ignored, leave it what it wants. Its number is
-- one of those that were given.
abbrev pub WantsCoverRequests : Type 0
WantsCoverRequests = (c later : Core) (e : Event) (reply : Reply) (n : ℕ) (s left : Stream) (wants next : Concern) → n ≤ c.opened → step c e ≡ Ok (reply, later)
    → finmap.get c.streams n ≡ Some s → finmap.get later.streams n ≡ Some left → IsNextWants n e wants next → Wants wants s → Wants next left

-- rule: wake-ups
-- Of a stream that opens a concern without a type covers all that it asked for, and of any stream one that covers all.
abbrev pub WantsBegin : Type 0
WantsBegin = (c : Concern) → (set_of c.types ≡ each false → Wants c opening) × (((t : TypeName) (name : List ℕ) → covers c t name ≡ true) → (s : Stream) → Wants c s)
