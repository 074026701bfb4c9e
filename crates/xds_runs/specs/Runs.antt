-- Runs of servers one after another over one store. Each run has a world of its own: replicas with numbers that no run had, each of
-- which begins with the merge of what is stored, and the clients, who go on with what they believe. This project's own.
--     Moment                          what may happen over runs
--     Runs                            the numbers that are taken, what is stored, and the world of the run that is under way
--     no_run                          before the first run
--     is_number                       whether a replica may have this number
--     are_new                         whether these are numbers of replicas, each its own, that aren't taken
--     with_taken                      the numbers that are taken once these are
--     arrivals                        what happens first at each replica of a run
--     ground                          a world without replicas, with the clients as they are, and with what is stored as its one batch
--     begun                           a run that begins with replicas of these numbers
--     stored_by                       with what the store has then
--     missed_on                       a client that is up finds that, where its replica is none of the run's
--     missed                          a client finds that the replica of its stream is gone
--     brings_a_replica                replicas come where a run begins, and at no other time
--     in_run                          with what the world of the run is then
--     occurs                          what is so after a moment; none where that isn't possible or is refused
--     runs_after                      what is so after a list of moments
--     runs                            the same, from the start
use Rattle.std.specs.Prelude.{ℕ, List, [], ◌∷◌, Bool, true, false, not, ◌&&◌, ◌==◌, if◌then◌else◌, nat_lt, Option, Some, None, is_none, option_map, Result, Ok, Err}
use Rattle.std.specs.Option.{option_and_then, option_map_or}
use Rattle.std.specs.List.{list_any}
use Rattle.std.specs.FinMap as finmap
use Rattle.xds_resource.specs.declared.refusal.Refusal.{Refusal}
use Rattle.xds_resource.specs.PerType.{each}
use Rattle.xds_resource.specs.Stamps.{max_writer}
use Rattle.xds_catalogue.specs.Holdings.{nothing_held}
use Rattle.xds_core.specs.Stores.{Store, merging, all_entries}
use Rattle.xds_cache.specs.Clients.{unlinked}
use Rattle.xds_cache.specs.Faults.{Test}
use Rattle.xds_script.specs.Happenings.{Happening, AddReplica, Merge}
use Rattle.xds_world.specs.Worlds.{Peer, Link, World, empty_world, with_peer, placed, on_link, happens, after}

-- what may happen over runs
pub data Moment : Type 0 where
  -- a run begins, with replicas of these numbers; of the run before, no replica takes part any more
  Begin : List ℕ → Moment
  -- something happens in the run
  Occur : Happening → Moment
  -- the store takes a batch of the run, by its place in the pool, and has it from then on
  Keep : ℕ → Moment
  -- a client finds that the replica of its stream is gone
  Miss : ℕ → Moment

pub record Runs : Type 0 where
  -- the number of the store, which no run takes
  pub store : ℕ
  -- the numbers that are taken, that of the store among them
  pub taken : List ℕ
  -- what is stored
  pub stored : Store
  -- the world of the run that is under way
  pub now : World

abbrev pub no_run : ℕ → Runs
no_run store = record { store = store; taken = store ∷ []; stored = each nothing_held; now = empty_world }

-- ---- numbers

-- rule: new-numbers
-- whether a replica may have this number
abbrev pub is_number : ℕ → Bool
is_number r = nat_lt 0 r && not (nat_lt max_writer r)

-- rule: new-numbers
-- whether these are numbers of replicas, each its own, that aren't taken
abbrev pub are_new : List ℕ → List ℕ → Bool
are_new taken [] = true
are_new taken (r ∷ rs) = (is_number r && not (list_any (λ q. q == r) taken)) && are_new (r ∷ taken) rs

-- rule: new-numbers
-- the numbers that are taken once these are
abbrev pub with_taken : List ℕ → List ℕ → List ℕ
with_taken taken [] = taken
with_taken taken (r ∷ rs) = with_taken (r ∷ taken) rs

-- ---- a run begins

-- rule: loaded-first
-- what happens first at each replica of a run: it comes, and merges the one batch that is there
abbrev pub arrivals : List ℕ → List Happening
arrivals [] = []
arrivals (r ∷ rs) = AddReplica r ∷ Merge r 1 ∷ arrivals rs

-- a world without replicas, with the clients as they are, and with what is stored as its one batch
abbrev pub ground : Runs → World
ground s = record { sites = finmap.empty; peers = s.now.peers; pool = (s.store, all_entries s.stored) ∷ [] }

-- rule: new-numbers
abbrev pub begun : Test → Runs → List ℕ → Runs
begun test s rs = record { store = s.store; taken = with_taken s.taken rs; stored = s.stored; now = after test (ground s) (arrivals rs) }

-- ---- what happens

-- with what the store has then; a batch that it can't count is refused, as by a replica
abbrev pub stored_by : Runs → Result (ℕ × Store) Refusal → Option Runs
stored_by s (Ok p) = Some (record s { stored = p.1 })
stored_by s (Err refusal) = None

-- the same of a client that is up: only where its replica is none of the run's
abbrev pub missed_on : World → ℕ → Peer → Link → Option World
missed_on w c p l = if is_none (finmap.get w.sites l.replica) then Some (with_peer w c (record p { client = unlinked p.client; link = None })) else None

-- a client finds that the replica of its stream is gone; what it believes it goes on believing
abbrev pub missed : World → ℕ → Option World
missed w c = on_link w c (missed_on w c)

-- rule: new-numbers
-- replicas come where a run begins, and at no other time
abbrev pub brings_a_replica : Happening → Bool
brings_a_replica (AddReplica r) = true
brings_a_replica h = false

-- with what the world of the run is then
abbrev pub in_run : Runs → World → Runs
in_run s w = record s { now = w }

-- What is so after a moment; none where that isn't possible or is refused.
abbrev pub occurs : Test → Runs → Moment → Option Runs
occurs test s (Begin rs) = if are_new s.taken rs then Some (begun test s rs) else None
occurs test s (Occur h) = if brings_a_replica h then None else option_map (in_run s) (happens test s.now h)
occurs test s (Keep b) = option_and_then (λ x. stored_by s (merging s.stored x.1)) (placed s.now.pool b)
occurs test s (Miss c) = option_map (in_run s) (missed s.now c)

-- what is so after a list of moments
abbrev pub runs_after : Test → Runs → List Moment → Runs
runs_after test s [] = s
runs_after test s (m ∷ ms) = runs_after test (option_map_or (λ x. x) (occurs test s m) s) ms

-- the same, from the start, with a store of this number
abbrev pub runs : Test → ℕ → List Moment → Runs
runs test store ms = runs_after test (no_run store) ms
