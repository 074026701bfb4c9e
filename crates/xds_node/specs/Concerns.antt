-- Which resources an event concerns, and which a stream asked for. This project's own.
--     set_of      the types that are in a set
--     only        one type alone
--     joined      all that are in one of two sets
--     includes    all that are in one are in another
--     meets       a type is in both
--     asked_for   the type that a request asks for, if it is one
--     some_of     there is one
--     written     the types of which there are writes
--     concerned   the types that an event asks for or changes
--     written_names    the names of a type that an event writes: what it puts, what it deletes, and what is merged
--     writes           whether it writes a name of a type
--     lists_it         whether a list of names in a request asks for a name: it has that, or the star
--     names_it         whether the names of a request ask for a name; a list of the state of the world without one asks for all
--     asks             whether an event asks for a name of a type
--     subscribes_nothing   whether a request is one for changes that subscribes nothing
--     is_unnamed       whether it is a request for changes that subscribes nothing
--     covers           whether a resource is among those of a concern
--     IsInBoth         a resource is in both
--     may_meet         whether a resource may be in both, as far as fingerprints tell
--     IsConcernOf      all is covered that an event writes or asks for
--     CoversBoth       all is covered that is covered by one of two
--     IsJoined         what a stream wants once it asked for more
use Rattle.std.specs.Prelude.{◌≡◌, ℕ, ◌==◌, ◌&&◌, ◌||◌, List, [], ◌∷◌, map, length, Bool, true, false, not, Option, Some, None, if◌then◌else◌}
use Rattle.std.specs.FinSet as set
use Rattle.xds_resource.specs.declared.types.TypeName.{TypeName}
use Rattle.xds_resource.specs.PerType.{PerType, at, each, with_at}
use Rattle.xds_resource.specs.Types.{type_of_url}
use Rattle.xds_resource.specs.Writes.{StampedWrite}
use Rattle.xds_interest.specs.Interests.{star_text, has_name}
use Rattle.xds_interest.specs.SotW.{is_named}
use Rattle.xds_core.specs.Streams.{Message, Sotw, Delta, url_of}
use Rattle.xds_core.specs.Events as events
use Rattle.xds_core.specs.Events.{Event}
use Rattle.xds_node.specs.Prints.{print, shares}
use Rattle.xds_node.specs.declared.node.concern.Concern.{Concern}
use Rattle.xds_node.specs.declared.node.concerns.TypeSet.{TypeSet}

-- the types that are in a set
abbrev pub set_of : TypeSet → PerType Bool
set_of s = record { cluster = s.cluster; endpoint = s.endpoint; listener = s.listener; route = s.route; secret = s.secret }

-- one type alone
abbrev pub only : TypeName → PerType Bool
only t = with_at (each false) t true

-- all that are in one of two sets
abbrev pub joined : PerType Bool → PerType Bool → PerType Bool
joined p q = record {
  cluster = p.cluster || q.cluster;
  endpoint = p.endpoint || q.endpoint;
  listener = p.listener || q.listener;
  route = p.route || q.route;
  secret = p.secret || q.secret;
}

-- all that are in the second are in the first
abbrev pub includes : PerType Bool → PerType Bool → Bool
includes p q =
    (((p.cluster || not q.cluster) && (p.endpoint || not q.endpoint)) && (p.listener || not q.listener)) && ((p.route || not q.route) && (p.secret || not q.secret))

-- a type is in both
abbrev pub meets : PerType Bool → PerType Bool → Bool
meets p q = (((p.cluster && q.cluster) || (p.endpoint && q.endpoint)) || (p.listener && q.listener)) || ((p.route && q.route) || (p.secret && q.secret))

-- the type that a request asks for, if it is one
abbrev pub asked_for : Option TypeName → PerType Bool
asked_for None = each false
asked_for (Some t) = only t

-- there is one
abbrev pub some_of : {A : Type 0} → List A → Bool
some_of xs = not (length xs == 0)

-- the types of which there are writes
abbrev pub written : PerType (List StampedWrite) → PerType Bool
written b = record { cluster = some_of b.cluster; endpoint = some_of b.endpoint; listener = some_of b.listener; route = some_of b.route; secret = some_of b.secret }

-- rule: wake-ups
-- the types that an event asks for or changes: a request's, a put's, a deletion's, and those of all writes that are merged
abbrev pub concerned : Event → PerType Bool
concerned events.Open = each false
concerned (events.Request n m) = asked_for (type_of_url (url_of m))
concerned (events.Poll n which) = each false
concerned (events.Owes n which) = each false
concerned (events.Close n) = each false
concerned (events.Put t r groups) = only t
concerned (events.Delete t name) = only t
concerned (events.Merge b) = written b
concerned events.Snapshot = each false
concerned (events.Rest t names version cluster) = each false
concerned (events.Since marks) = each false

-- ---- names

-- rule: wake-ups
-- the names of a type that an event writes: what it puts, what it deletes, and what is merged
abbrev pub written_names : Event → TypeName → List (List ℕ)
written_names events.Open t = []
written_names (events.Request n m) t = []
written_names (events.Poll n which) t = []
written_names (events.Owes n which) t = []
written_names (events.Close n) t = []
written_names (events.Put u r groups) t = if at (only u) t then r.name ∷ [] else []
written_names (events.Delete u name) t = if at (only u) t then name ∷ [] else []
written_names (events.Merge b) t = map (λ w. w.name) (at b t)
written_names events.Snapshot t = []
written_names (events.Rest u names version cluster) t = []
written_names (events.Since marks) t = []

-- whether it writes a name of a type
abbrev pub writes : Event → TypeName → List ℕ → Bool
writes e t name = has_name (written_names e t) name

-- whether a list of names in a request asks for a name: it has that, or the star
abbrev pub lists_it : List (List ℕ) → List ℕ → Bool
lists_it names name = has_name names star_text || has_name names name

-- rule: wake-ups
-- Whether the names of a request ask for a name. A list of the state of the world without one asks for all.
abbrev pub names_it : Message → List ℕ → Bool
names_it (Sotw m) name = not (is_named m.resource_names) || lists_it m.resource_names name
names_it (Delta m) name = lists_it m.resource_names_subscribe name

-- rule: wake-ups
-- whether an event asks for a name of a type
abbrev pub asks : Event → TypeName → List ℕ → Bool
asks events.Open t name = false
asks (events.Request n m) t name = at (asked_for (type_of_url (url_of m))) t && names_it m name
asks (events.Poll n which) t name = false
asks (events.Owes n which) t name = false
asks (events.Close n) t name = false
asks (events.Put u r groups) t name = false
asks (events.Delete u other) t name = false
asks (events.Merge b) t name = false
asks events.Snapshot t name = false
asks (events.Rest u names version cluster) t name = false
asks (events.Since marks) t name = false

-- whether a request is one for changes that subscribes nothing
abbrev pub subscribes_nothing : Message → Bool
subscribes_nothing (Sotw m) = false
subscribes_nothing (Delta m) = not (is_named m.resource_names_subscribe)

-- whether an event is a request for changes that subscribes nothing
abbrev pub is_unnamed : Event → Bool
is_unnamed events.Open = false
is_unnamed (events.Request n m) = subscribes_nothing m
is_unnamed (events.Poll n which) = false
is_unnamed (events.Owes n which) = false
is_unnamed (events.Close n) = false
is_unnamed (events.Put u r groups) = false
is_unnamed (events.Delete u name) = false
is_unnamed (events.Merge b) = false
is_unnamed events.Snapshot = false
is_unnamed (events.Rest u names version cluster) = false
is_unnamed (events.Since marks) = false

-- ---- which resources are covered

-- rule: wake-ups
-- Whether a resource is among those of a concern: its type is, and all names of that are, or the fingerprint of its name is.
abbrev pub covers : Concern → TypeName → List ℕ → Bool
covers c t name = at (set_of c.types) t && (at (set_of c.whole) t || set.contains c.names (print t name))

-- a resource is in both
abbrev pub IsInBoth : Concern → Concern → TypeName → List ℕ → Type 0
IsInBoth a b t name = (covers a t name ≡ true) × (covers b t name ≡ true)

-- rule: wake-ups
-- Whether a resource may be in both: they share a type, and of one that they share one has all names, or they share a fingerprint.
abbrev pub may_meet : Concern → Concern → Bool
may_meet a b =
    meets (set_of a.types) (set_of b.types)
    && ((meets (set_of a.whole) (set_of b.types) || meets (set_of a.types) (set_of b.whole)) || shares a.names b.names)

-- rule: wake-ups
-- A concern of an event: its types are those that the event concerns, all is covered that the event writes or asks for, and where it is
-- a request for changes that subscribes nothing there is no name.
pub record IsConcernOf (e : Event) (c : Concern) : Type 0 where
  pub types : set_of c.types ≡ concerned e
  pub covered : (t : TypeName) (name : List ℕ) → (writes e t name || asks e t name) ≡ true → covers c t name ≡ true
  pub unnamed : is_unnamed e ≡ true → c.names ≡ set.empty

-- all is covered that is covered by one of two
abbrev pub CoversBoth : Concern → Concern → Concern → Type 0
CoversBoth a b both = (t : TypeName) (name : List ℕ) → (covers a t name || covers b t name) ≡ true → covers both t name ≡ true

-- rule: wake-ups
-- What a stream wants once it asked for more: that, and all of before; and all of a type that it asks for first, without a name.
pub record IsJoined (old asked new : Concern) : Type 0 where
  pub types : set_of new.types ≡ joined (set_of old.types) (set_of asked.types)
  pub covered : CoversBoth old asked new
  pub first : meets (set_of old.types) (set_of asked.types) ≡ false → asked.names ≡ set.empty
      → (t : TypeName) (name : List ℕ) → at (set_of asked.types) t ≡ true → covers new t name ≡ true
