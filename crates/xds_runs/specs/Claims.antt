-- What holds of runs one after another. This project's own.
--     PutsAResourceThen                    what a moment puts is a resource of its type, for groups that a write may list
--     PutResourcesThen                     so it is at each of some moments
--     held                                 what a replica holds of a type, as a list of writes
--     IsPartOf                             a world whose replicas are replicas of a whole, and whose clients are all clients there
--     AreOneWorld                          runs are one list of happenings, of which the headline holds
--     DeltaShowsWhatIsHeld                 a settled client shows exactly what its replica holds, for delta clients
--     SotwShowsWhatIsHeld                  and for clients of the state of the world
--     PollShowsWhatIsHeld                  a client of REST shows, after a poll, what its replica holds
--     HoldsTheStored                       a replica of a run that holds what is stored
--     BeginsWithWhatIsStored               what a replica holds where its run begins
--     is_beginning                         whether a run begins
--     HoldsAtLeast                         a replica of a run that holds what was stored, or greater writes
--     KeepsWhatWasStored                   what a replica holds until its run ends
--     StoredStays                          what is stored stays
--     IsThere                              a write that is stored, or that a replica of the run holds
--     OneWriteAVersion                     writes with the same version are the same write, whichever runs they are of
use Rattle.std.specs.Prelude.{◌≡◌, ◌⊎◌, ℕ, List, [], ◌∷◌, ◌++◌, Bool, true, false, Some, Contains, ⊤}
use Rattle.std.specs.List.{list_any}
use Rattle.std.specs.FinMap as finmap
use Rattle.xds_resource.specs.declared.types.TypeName.{TypeName}
use Rattle.xds_resource.specs.PerType.{at}
use Rattle.xds_resource.specs.Writes.{StampedWrite, version_of}
use Rattle.xds_catalogue.specs.Joins.{IsAbove}
use Rattle.xds_core.specs.Stores.{Store}
use Rattle.xds_cache.specs.Clients.{shelf, view}
use Rattle.xds_cache.specs.Faults.{Test}
use Rattle.xds_script.specs.declared.event.ClientKind.TheVariants.{Sotw, Delta}
use Rattle.xds_script.specs.declared.event.AnswerFate.TheVariants.{Arrives}
use Rattle.xds_script.specs.Happenings.{Happening, RestPoll, PutsAResource}
use Rattle.xds_world.specs.Worlds.{Site, Peer, Link, World, world, happens}
use Rattle.xds_world.specs.Claims.{PutResources, Headline, is_settled, rejects, IsExact, Shows}
use Rattle.xds_runs.specs.Runs.{Moment, Begin, Occur, Runs, are_new, begun, runs}

-- ---- what is put

abbrev pub PutsAResourceThen : Moment → Type 0
PutsAResourceThen (Occur h) = PutsAResource h
PutsAResourceThen m = ⊤

-- what is put is a resource of its type, for groups that a write may list
abbrev pub PutResourcesThen : List Moment → Type 0
PutResourcesThen [] = ⊤
PutResourcesThen (m ∷ ms) = PutsAResourceThen m × PutResourcesThen ms

-- ---- one world

-- a world whose replicas are replicas of a whole, and whose clients are all clients there
pub record IsPartOf (w whole : World) : Type 0 where
  pub clients : whole.peers ≡ w.peers
  pub replicas : (r : ℕ) (s : Site) → finmap.get w.sites r ≡ Some s → finmap.get whole.sites r ≡ Some s

-- Runs are one list of happenings, of which the headline holds: the run under way is part of the world that the list makes.
pub record AreOneWorld (test : Test) (store : ℕ) (ms : List Moment) : Type 0 where
  pub happenings : List Happening
  pub resources : PutResources happenings
  pub headline : Headline test happenings
  pub part : IsPartOf (runs test store ms).now (world test happenings)

-- ---- clients

-- what a replica holds of a type, as a list of writes
abbrev pub held : Store → TypeName → List StampedWrite
held s t = finmap.values (at s t).entries

-- A client of whatever run that is settled of a type shows exactly what its replica, of the run under way, holds of its interest.
abbrev pub DeltaShowsWhatIsHeld : Test → ℕ → List Moment → Type 0
DeltaShowsWhatIsHeld test store ms =
    (c : ℕ) (p : Peer) (l : Link) (s : Site) (t : TypeName) → finmap.get (runs test store ms).now.peers c ≡ Some p → p.kind ≡ Delta → p.link ≡ Some l → finmap.get (runs test store ms).now.sites l.replica ≡ Some s
    → is_settled (runs test store ms).now c t ≡ true → IsExact t (held s.core.store t) p.client.cluster (shelf p.client t).wants (view p.client t)

-- and for clients of the state of the world
abbrev pub SotwShowsWhatIsHeld : Test → ℕ → List Moment → Type 0
SotwShowsWhatIsHeld test store ms =
    (c : ℕ) (p : Peer) (l : Link) (s : Site) (t : TypeName) → finmap.get (runs test store ms).now.peers c ≡ Some p → p.kind ≡ Sotw → p.link ≡ Some l → finmap.get (runs test store ms).now.sites l.replica ≡ Some s
    → is_settled (runs test store ms).now c t ≡ true → Shows t (held s.core.store t) p.client.cluster (shelf p.client t).wants (view p.client t)

-- A client of REST, of whatever run, shows after a poll whose answer came and wasn't rejected, or was that nothing changed, what the
-- replica holds, whatever version it kept of a replica of an earlier run.
abbrev pub PollShowsWhatIsHeld : Test → ℕ → List Moment → Type 0
PollShowsWhatIsHeld test store ms =
    (c r : ℕ) (p q : Peer) (s : Site) (t : TypeName) (left : World) → finmap.get (runs test store ms).now.peers c ≡ Some p → finmap.get (runs test store ms).now.sites r ≡ Some s
    → happens test (runs test store ms).now (RestPoll c r t Arrives) ≡ Some left → rejects test (runs test store ms).now c r t ≡ false → finmap.get left.peers c ≡ Some q
    → Shows t (held s.core.store t) p.client.cluster (shelf p.client t).wants (view q.client t)

-- ---- what is stored

-- a replica of this number, of a run, that holds what is stored
pub record HoldsTheStored (s run : Runs) (r : ℕ) : Type 0 where
  pub site : Site
  pub there : finmap.get run.now.sites r ≡ Some site
  pub holds : (t : TypeName) → (at site.core.store t).entries ≡ (at s.stored t).entries

-- rule: loaded-first
-- Each replica of a run that begins holds exactly what is stored.
abbrev pub BeginsWithWhatIsStored : Test → ℕ → List Moment → Type 0
BeginsWithWhatIsStored test store ms =
    (rs : List ℕ) (r : ℕ) → are_new (runs test store ms).taken rs ≡ true → Contains rs r → HoldsTheStored (runs test store ms) (begun test (runs test store ms) rs) r

-- whether a run begins
abbrev pub is_beginning : Moment → Bool
is_beginning (Begin rs) = true
is_beginning m = false

-- rule: greatest-write
-- a replica of this number, of a run, that holds of each name what was stored or a greater write
pub record HoldsAtLeast (s run : Runs) (r : ℕ) : Type 0 where
  pub site : Site
  pub there : finmap.get run.now.sites r ≡ Some site
  pub holds : (t : TypeName) → IsAbove (at site.core.store t).entries (at s.stored t).entries

-- rule: greatest-write
-- Until the next run begins, each replica of a run holds of each name what was stored where the run began, or a greater write.
abbrev pub KeepsWhatWasStored : Test → ℕ → List Moment → Type 0
KeepsWhatWasStored test store ms =
    (rs : List ℕ) (r : ℕ) (more : List Moment) → are_new (runs test store ms).taken rs ≡ true → Contains rs r → list_any is_beginning more ≡ false
    → HoldsAtLeast (runs test store ms) (runs test store (ms ++ Begin rs ∷ more)) r

-- rule: greatest-write
-- What is stored of a name stays, whatever comes, until a greater write of the name is stored.
abbrev pub StoredStays : Test → ℕ → List Moment → List Moment → Type 0
StoredStays test store ms more = (t : TypeName) → IsAbove (at (runs test store (ms ++ more)).stored t).entries (at (runs test store ms).stored t).entries

-- ---- versions

-- a write of a type that is stored, or that a replica of the run holds
abbrev pub IsThere : Runs → TypeName → StampedWrite → Type 0
IsThere s t x = (name : List ℕ) × ((finmap.get (at s.stored t).entries name ≡ Some x) ⊎ ((r : ℕ) × (site : Site) × (finmap.get s.now.sites r ≡ Some site) × (finmap.get (at site.core.store t).entries name ≡ Some x)))

-- rule: new-numbers
-- Writes of a type with the same version are the same write, with one name and one body, however many runs lie between them.
abbrev pub OneWriteAVersion : Test → ℕ → List Moment → List Moment → Type 0
OneWriteAVersion test store ms more =
    (t : TypeName) (x y : StampedWrite) → IsThere (runs test store ms) t x → IsThere (runs test store (ms ++ more)) t y → version_of x ≡ version_of y → x ≡ y
