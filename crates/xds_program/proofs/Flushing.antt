-- What was written where a flush fails behind a whole text.
use Rattle.std.proofs.Common.{◌≡◌, ℕ, List, [], ◌++◌, Option, subst, append-nil}
use Rattle.std.specs.Io.KnownBytes.{Appends}
use Rattle.xds_frames.specs.Devices.{WrotePart}
use Rattle.xds_frames.proofs.Gatherings.{of_calls, part_behind_held}

-- the text was written whole, behind an empty block, and then a call failed
pub flushed_part : (b m a : Option (List ℕ)) (f g h : ℕ) (block text : List ℕ) → block ≡ [] → Appends b m (block ++ text) → g ≡ f → WrotePart (of_calls m a g h) [] → WrotePart (of_calls b a f h) text
flushed_part b m a f g h block text none wrote same part =
    subst (WrotePart (of_calls b a f h)) (append-nil text) (part_behind_held b m a f g h text [] (subst (λ (l : List ℕ). Appends b m (l ++ text)) none wrote) same part)
