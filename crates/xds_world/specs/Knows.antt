-- What each replica knows, from the list of happenings alone: the writes made there, and of each batch merged there what its sender
-- knew when it was taken. What each client wants, and of which cluster it is. This project's own.
--     Knowledge                       what is known at each replica, and what was known when each batch was taken
--     nothing_known                   before anything happened
--     learning                        with these writes known at a replica, too
--     made                            the write that a reply tells of, if it tells of one
--     learned                         what is known after something happened that was possible, in the world before it
--     known_after                     what is known after a list of happenings, from a world and what is known there
--     knows                           what a replica knows
--     wished                          what a client wants of a type after a change of its own
--     wishing                         the same after a happening, which may be no change of this client
--     wanted_after                    the same after a list of happenings
--     wants                           what a client wants of a type
--     placing                         the cluster of a client after a happening
--     cluster_after                   the cluster of a client after a list of happenings
--     cluster                         the text of a client's cluster, empty where it has none
--     linking                         the replica that a client is linked to after a happening
--     linked_after                    the same after a list of happenings
--     link                            the replica of a client's last connect, if its stream wasn't lost since
--     made_now                        the write that is made where something happens, if one is
--     made_after                      all writes made until then and by a list of happenings
use Rattle.std.specs.Prelude.{ℕ, List, [], ◌∷◌, ◌++◌, if◌then◌else◌, ◌==◌, Option, Some, None}
use Rattle.std.specs.Option.{option_map_or}
use Rattle.std.specs.FinMap as finmap
use Rattle.xds_resource.specs.declared.types.TypeName.{TypeName}
use Rattle.xds_resource.specs.Types.{is_same_type}
use Rattle.xds_resource.specs.Resources.{written, deleted}
use Rattle.xds_resource.specs.Writes.{StampedWrite}
pub use Rattle.xds_resource.specs.TypedWrites.{TypedWrite}
use Rattle.xds_core.specs.Events as events
use Rattle.xds_cache.specs.Faults.{Test}
use Rattle.xds_cache.specs.Shelves.{Wants, wants_of, wants_after}
use Rattle.xds_script.specs.Happenings.{Wish, Names, Edits, Happening, AddClient, Put, Delete, Snapshot, Merge, Connect, Change, Lose}
use Rattle.xds_world.specs.Worlds.{World, empty_world, at_site, happens, placed}

-- what is known at each replica, and what was known when each batch was taken
pub record Knowledge : Type 0 where
  pub at : ℕ → List TypedWrite
  pub batches : List (List TypedWrite)

abbrev pub nothing_known : Knowledge
nothing_known = record { at = λ r. []; batches = [] }

-- with these writes known at a replica, too
abbrev pub learning : Knowledge → ℕ → List TypedWrite → Knowledge
learning k r ws = record k { at = λ q. if q == r then k.at q ++ ws else k.at q }

-- the write that a reply tells of, if it tells of one
abbrev pub made : (ℕ → ℕ → StampedWrite) → TypeName → Option (events.Reply × World) → List TypedWrite
made write t (Some (events.Written counter writer, w)) = (t, write counter writer) ∷ []
made write t other = []

-- what is known after something happened that was possible, in the world before it
abbrev pub learned : World → Happening → Knowledge → Knowledge
learned w (Put r t body groups) k = learning k r (made (λ counter writer. written counter writer body groups) t (at_site w r (events.Put t body groups)))
learned w (Delete r t name) k = learning k r (made (λ counter writer. deleted counter writer name) t (at_site w r (events.Delete t name)))
learned w (Snapshot r) k = record k { batches = k.batches ++ k.at r ∷ [] }
learned w (Merge r b) k = option_map_or (learning k r) (placed k.batches b) k
learned w h k = k

-- what is known after a list of happenings, from a world and what is known there
abbrev pub known_after : Test → World → Knowledge → List Happening → Knowledge
known_after test w k [] = k
known_after test w k (h ∷ hs) = option_map_or (λ x. known_after test x (learned w h k) hs) (happens test w h) (known_after test w k hs)

-- what a replica knows
abbrev pub knows : Test → List Happening → ℕ → List TypedWrite
knows test hs r = (known_after test empty_world nothing_known hs).at r

-- ---- what is wanted

-- rule: delta-names
-- what a client wants of a type after a change of its own
abbrev pub wished : Wish → Wants → Wants
wished (Names names) before = wants_of names
wished (Edits subscribe unsubscribe) before = wants_after (wants_of subscribe) (wants_of unsubscribe) before

abbrev pub wishing : ℕ → TypeName → Happening → Wants → Wants
wishing c t (Change d s wish) before = if d == c then (if is_same_type s t then wished wish before else before) else before
wishing c t h before = before

abbrev pub wanted_after : Test → World → ℕ → TypeName → Wants → List Happening → Wants
wanted_after test w c t before [] = before
wanted_after test w c t before (h ∷ hs) = option_map_or (λ x. wanted_after test x c t (wishing c t h before) hs) (happens test w h) (wanted_after test w c t before hs)

-- what a client wants of a type
abbrev pub wants : Test → List Happening → ℕ → TypeName → Wants
wants test hs c t = wanted_after test empty_world c t finmap.empty hs

-- ---- clusters

-- the cluster that a client says it is of: what it was told when it came
abbrev pub placing : ℕ → Happening → List ℕ → List ℕ
placing c (AddClient d kind cluster) before = if d == c then cluster else before
placing c h before = before

abbrev pub cluster_after : Test → World → ℕ → List ℕ → List Happening → List ℕ
cluster_after test w c before [] = before
cluster_after test w c before (h ∷ hs) = option_map_or (λ x. cluster_after test x c (placing c h before) hs) (happens test w h) (cluster_after test w c before hs)

-- rule: groups
-- the text of a client's cluster, empty where it has none
abbrev pub cluster : Test → List Happening → ℕ → List ℕ
cluster test hs c = cluster_after test empty_world c [] hs

-- ---- links

-- the replica that a client is linked to
abbrev pub linking : ℕ → Happening → Option ℕ → Option ℕ
linking c (Connect d r) before = if d == c then Some r else before
linking c (Lose d) before = if d == c then None else before
linking c h before = before

abbrev pub linked_after : Test → World → ℕ → Option ℕ → List Happening → Option ℕ
linked_after test w c before [] = before
linked_after test w c before (h ∷ hs) = option_map_or (λ x. linked_after test x c (linking c h before) hs) (happens test w h) (linked_after test w c before hs)

-- the replica of a client's last connect, if its stream wasn't lost since
abbrev pub link : Test → List Happening → ℕ → Option ℕ
link test hs c = linked_after test empty_world c None hs

-- ---- all writes

-- the write that is made where something happens, if one is
abbrev pub made_now : World → Happening → List TypedWrite
made_now w (Put r t body groups) = made (λ counter writer. written counter writer body groups) t (at_site w r (events.Put t body groups))
made_now w (Delete r t name) = made (λ counter writer. deleted counter writer name) t (at_site w r (events.Delete t name))
made_now w h = []

-- all writes made until then and by a list of happenings
abbrev pub made_after : Test → World → List TypedWrite → List Happening → List TypedWrite
made_after test w all [] = all
made_after test w all (h ∷ hs) = option_map_or (λ x. made_after test x (all ++ made_now w h) hs) (happens test w h) (made_after test w all hs)
