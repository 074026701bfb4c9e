use Rattle.std.proofs.Common.{◌≡◌, ℕ, List, take}
use Rattle.std.specs.Prelude.{if◌then◌else◌}
use Rattle.std.specs.List.{list_any}
use Rattle.std.specs.Option.{option_or}
use Rattle.std.specs.FinMap as finmap
use Rattle.std.specs.FinSet as set
use Rattle.xds_ledger.specs.Accepting.{change_since, kept_beside}
use Rattle.xds_ledger.proofs.accepting.differences_since.Given as goal

-- what was put
abbrev pub invariant-loop-touched : goal.invariant-loop-touched
invariant-loop-touched l =
    (q : List ℕ) → finmap.get l.next q
    ≡ (if list_any (λ t. set.contains t.names q) (take l.touched-index l.touched-items) then option_or (change_since l.sent l.beliefs q) (finmap.get (kept_beside l.fn.whole l.sent l.beliefs) q)
    else finmap.get (kept_beside l.fn.whole l.sent l.beliefs) q)
