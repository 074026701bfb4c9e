-- A world that runs, with the list of what happened in it. This project's own.
--     IsWorldOf    the world is the one that the list leads to, in which what is put are resources
--     HasStepped   whether something happened: then it stands at the end of the list
--     HasEnded     whether the client is settled and how many responses it took, where settling came to an end
use Rattle.std.specs.Prelude.{◌≡◌, ℕ, List, [], ◌∷◌, ◌++◌, Bool, true, false, Option, Some, None}
use Rattle.xds_resource.specs.declared.types.TypeName.{TypeName}
use Rattle.xds_cache.specs.Faults.{Test}
use Rattle.xds_script.specs.Happenings.{Happening}
use Rattle.xds_world.specs.Worlds.{World, world, happens}
use Rattle.xds_world.specs.Claims.{PutResources}
use Rattle.xds_world.specs.Settling.{HasSettled, HasStopped}

-- the world is the one that the list leads to, in which what is put are resources
pub record IsWorldOf (test : Test) (w : World) (hs : List Happening) : Type 0 where
  pub world : w ≡ world test hs
  pub put : PutResources hs

-- whether something happened: then it stands at the end of the list; and what isn't possible leaves all as it was
abbrev pub HasStepped : Test → World → List Happening → Bool → World → List Happening → Happening → Type 0
HasStepped test w hs true left more h = (happens test w h ≡ Some left) × (more ≡ hs ++ h ∷ [])
HasStepped test w hs false left more h = (happens test w h ≡ None) × (left ≡ w) × (more ≡ hs)

-- whether the client is settled and how many responses it took, where settling came to an end
abbrev pub HasEnded : Test → ℕ → TypeName → List Happening → List Happening → Option (Bool × ℕ) → Type 0
HasEnded test c t before after None = HasStopped test c t before after
HasEnded test c t before after (Some p) = HasSettled test c t before after p.0 p.1
