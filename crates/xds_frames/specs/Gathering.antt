-- Bytes that are gathered in a block on their way to a writer. This project's own.
--     Passes   bytes come behind those that were held
use Rattle.std.specs.Prelude.{◌≡◌, ℕ, List, ◌++◌}
use Rattle.xds_frames.specs.Devices.{Device, Wrote}

-- Bytes come behind those that were held: some of all these were written, and what is left of them is held. No call failed.
pub record Passes (d : Device) (held bytes left : List ℕ) : Type 0 where
  pub sent : List ℕ
  pub wrote : Wrote d sent
  pub all : held ++ bytes ≡ sent ++ left
  pub none_failed : d.failed_after ≡ d.failed_before
