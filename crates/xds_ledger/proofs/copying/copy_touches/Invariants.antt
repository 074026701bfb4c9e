use Rattle.std.proofs.Common.{◌≡◌, take}
use Rattle.xds_ledger.proofs.copying.copy_touches.Given as goal

abbrev pub invariant-loop-touched : goal.invariant-loop-touched
invariant-loop-touched l = l.copies.items ≡ take l.touched-index l.touches.items
