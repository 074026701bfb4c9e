-- Numbers above those of the replicas that made some writes.
use Rattle.std.proofs.Common.{◌≡◌, ◌<◌, ◌≤◌, ◌+◌, ℕ, List, length, take, arith, subst, sym}
use Rattle.std.specs.Prelude.{get_or}
use Rattle.std.proofs.lemmas.List.Elements.{All-more, All-weaker, All-get_or}
use Rattle.std.proofs.lemmas.List.{take_all}
use Rattle.xds_resource.specs.Writes.{StampedWrite}
use Rattle.xds_changes.specs.Given.{AreBelow}

-- one write more, and a number that is no less and above it
pub below_more : (ws : List StampedWrite) (i n m : ℕ) (w : StampedWrite) → i < length ws → w ≡ get_or ws i w → n ≤ m → w.writer < m → AreBelow n (take i ws) → AreBelow m (take (i + 1) ws)
below_more ws i n m w there is no_less below before =
    All-more (λ (v : StampedWrite). v.writer < m) ws i w there
    (All-weaker (λ (v : StampedWrite). v.writer < n) (λ (v : StampedWrite). v.writer < m) (λ v lt. omega (arith, lt, no_less)) (take i ws) before)
    (subst (λ (v : StampedWrite). v.writer < m) is below)

-- all were looked at
pub below_all : (ws : List StampedWrite) (i n : ℕ) → length ws ≤ i → AreBelow n (take i ws) → AreBelow n ws
below_all ws i n all before = subst (AreBelow n) (take_all i ws all) before

-- one of the writes that are all below a number
pub below_at : (ws : List StampedWrite) (i n : ℕ) (w : StampedWrite) → i < length ws → w ≡ get_or ws i w → AreBelow n ws → w.writer < n
below_at ws i n w there is all = subst (λ (v : StampedWrite). v.writer < n) (sym is) (All-get_or (λ (v : StampedWrite). v.writer < n) ws i w there all)
