use Rattle.std.proofs.Common.{◌≡◌, ℕ, List, take}
use Rattle.std.specs.List.{list_any}
use Rattle.std.specs.FinSet as set
use Rattle.xds_ledger.specs.Listed.{is_listed}
use Rattle.xds_ledger.proofs.listing.list_since.Given as goal

-- what was put
abbrev pub invariant-loop-touched : goal.invariant-loop-touched
invariant-loop-touched l = (l.all.mark ≡ l.mark) × ((q : List ℕ) → is_listed l.all q ≡ list_any (λ t. set.contains t.names q) (take l.touched-index l.touched-items))
