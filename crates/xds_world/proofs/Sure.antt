-- All that is kept of a world, whatever happens in it.
use Rattle.std.proofs.Common.{◌≡◌, List, [], ◌∷◌, ◌++◌, Option, Some, None, refl}
use Rattle.std.specs.Option.{option_map_or}
use Rattle.xds_cache.specs.Faults.{Test}
use Rattle.xds_script.specs.Happenings.{Happening, PutsAResource}
use Rattle.xds_world.specs.Worlds.{World, empty_world, happens, after, world}
use Rattle.xds_world.specs.Knows.{TypedWrite, Knowledge, nothing_known, learned, known_after, made_now, made_after}
use Rattle.xds_world.specs.Claims.{PutResources}
use Rattle.xds_world.proofs.Replicas.{Kept, kept_start, kept_step}
use Rattle.xds_world.proofs.Origins.{Stamped, stamped_start, stamped_step}
use Rattle.xds_world.proofs.Ranges.{Ranged, ranged_start, ranged_step, sites_known}
use Rattle.xds_world.proofs.Everyone.{Fine}
use Rattle.xds_world.proofs.EveryEvent.{fine_start, fine_step}
use Rattle.xds_world.proofs.ModelMore.{fine_more}
use Rattle.xds_world.proofs.RestPolls.{Polls, polls_start, polls_step}

-- all that is kept of a world
pub record Sure (w : World) (k : Knowledge) (all : List TypedWrite) : Type 0 where
  pub kept : Kept w k
  pub stamped : Stamped w k all
  pub ranged : Ranged w all
  pub fine : Fine w all
  pub polls : Polls w

sure_step : (test : Test) (w left : World) (k : Knowledge) (all : List TypedWrite) (h : Happening) → happens test w h ≡ Some left → PutsAResource h → Sure w k all → Sure left (learned w h k) (all ++ made_now w h)
sure_step test w left k all h is puts sure = record {
  kept = kept_step test w left k h is sure.kept;
  stamped = stamped_step test w left k all h is sure.kept sure.stamped;
  ranged = ranged_step test w left k all h is puts sure.kept sure.stamped sure.ranged;
  fine = fine_more all (made_now w h) left (fine_step test w left all h is (sites_known w k all sure.kept sure.stamped sure.ranged) sure.fine);
  polls = polls_step test w left k all h is sure.kept sure.stamped sure.ranged sure.fine sure.polls;
}

sure_or : (test : Test) (w : World) (k : Knowledge) (all : List TypedWrite) (h : Happening) (hs : List Happening) (o : Option World) → happens test w h ≡ o → PutsAResource h → Sure w k all
    → ((x : World) (j : Knowledge) (made : List TypedWrite) → Sure x j made → Sure (after test x hs) (known_after test x j hs) (made_after test x made hs))
    → Sure (after test (option_map_or (λ x. x) o w) hs) (option_map_or (λ x. known_after test x (learned w h k) hs) o (known_after test w k hs)) (option_map_or (λ x. made_after test x (all ++ made_now w h) hs) o (made_after test w all hs))
sure_or test w k all h hs None is puts sure later = later w k all sure
sure_or test w k all h hs (Some x) is puts sure later = later x (learned w h k) (all ++ made_now w h) (sure_step test w x k all h is puts sure)

pub sure_after : (test : Test) (hs : List Happening) (w : World) (k : Knowledge) (all : List TypedWrite) → PutResources hs → Sure w k all → Sure (after test w hs) (known_after test w k hs) (made_after test w all hs)
sure_after test [] w k all put sure = sure
sure_after test (h ∷ hs) w k all put sure = sure_or test w k all h hs (happens test w h) refl put.0 sure (λ x j made. sure_after test hs x j made put.1)

pub sure : (test : Test) (hs : List Happening) → PutResources hs → Sure (world test hs) (known_after test empty_world nothing_known hs) (made_after test empty_world [] hs)
sure test hs put = sure_after test hs empty_world nothing_known [] put (record { kept = kept_start; stamped = stamped_start; ranged = ranged_start; fine = fine_start; polls = polls_start })
