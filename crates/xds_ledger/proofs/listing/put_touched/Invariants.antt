use Rattle.std.proofs.Common.{◌≡◌, map, string_bytes}
use Rattle.xds_ledger.specs.Lists.{with_names}
use Rattle.xds_ledger.proofs.listing.put_touched.Given as goal

-- what is left decides
abbrev pub invariant-loop-name : goal.invariant-loop-name
invariant-loop-name l = with_names l.listed (map string_bytes l.name-iterator) ≡ with_names l.initial.listed (map string_bytes l.initial.name-iterator)
