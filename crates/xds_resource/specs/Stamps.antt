-- Stamps of writes and their version texts. This project's own.
--     max_counter    the greatest counter, 2 ^ 63 - 1
--     max_writer     the greatest writer number
--     IsStamp        a counter and a writer that may stamp a write
--     version_text   a version text: counter, a dash, writer, in decimal without leading zeros
use Rattle.std.specs.Prelude.{ℕ, ◌≤◌, List, ◌∷◌, ◌++◌, decimal}

-- the greatest counter, 2 ^ 63 - 1
abbrev pub max_counter : ℕ
max_counter = 9223372036854775807

-- the greatest writer number
abbrev pub max_writer : ℕ
max_writer = 65535

-- a counter and a writer that may stamp a write
pub record IsStamp (counter writer : ℕ) : Type 0 where
  pub counter_from : 1 ≤ counter
  pub counter_to : counter ≤ max_counter
  pub writer_from : 1 ≤ writer
  pub writer_to : writer ≤ max_writer

-- a version text: counter, a dash, writer, in decimal without leading zeros
abbrev pub version_text : ℕ → ℕ → List ℕ
version_text counter writer = decimal counter ++ 45 ∷ decimal writer
