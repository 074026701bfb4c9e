-- Why a client wasn't settled. This project's own.
--     HasFailed             without a stream the world is as it was
--     IsSettledByTaking     where the client's test takes all that it is to show of what its replica knows
--     IsSettledOrHeldBack   a client that isn't settled refused what its replica would send it
use Rattle.std.specs.Prelude.{◌≡◌, ℕ, List, Bool, true, false, Some, None, ⊤}
use Rattle.xds_resource.specs.declared.types.TypeName.{TypeName}
use Rattle.xds_cache.specs.Faults.{Test}
use Rattle.xds_world.specs.Claims.{Headline, writes_of, TakesAll}
use Rattle.xds_world.specs.Knows.{knows, cluster, wants, link}
use Rattle.xds_world.specs.Worlds.{world}
use Rattle.xds_world.specs.Settling.{link_in, is_held_back, HasStopped}
use Rattle.xds_script.specs.Happenings.{Happening}
use Rattle.xds_world.specs.declared.settling.Unsettled.{Unsettled}
use Rattle.xds_world.specs.declared.settling.Unsettled.TheVariants as unsettled

-- without a stream the world is as it was; with all responses spent it is what happened until then, and the headline holds of it
abbrev pub HasFailed : {A : Type 0} → Test → ℕ → TypeName → List Happening → Unsettled A → Type 0
HasFailed test c t before (unsettled.NoStream w) = (link_in (world test before) c ≡ None) × (w ≡ before)
HasFailed test c t before (unsettled.NonceSpent w) = HasStopped test c t before w × Headline test w
HasFailed test c t before unsettled.OutOfMemory = ⊤

-- where the client's test takes all that it is to show of what its replica knows, it is settled
abbrev pub IsSettledByTaking : Test → ℕ → TypeName → List Happening → Bool → Type 0
IsSettledByTaking test c t before settled =
    (r : ℕ) → link test before c ≡ Some r → TakesAll test t (writes_of t (knows test before r)) (cluster test before c) (wants test before c t) → settled ≡ true

-- a client that isn't settled refused what its replica would send it
abbrev pub IsSettledOrHeldBack : Test → ℕ → TypeName → List Happening → Bool → Type 0
IsSettledOrHeldBack test c t after settled = settled ≡ false → is_held_back (world test after) c t ≡ true
