use Rattle.std.proofs.Common.{◌≡◌}
use Rattle.std.specs.FinMap as finmap
use Rattle.xds_resource.specs.Names.{pairs, put_all}
use Rattle.xds_ledger.proofs.flat.with_changed.Given as goal

-- what is left decides
abbrev pub invariant-loop-name : goal.invariant-loop-name
invariant-loop-name l = put_all (λ name entry. entry) l.all (pairs l.name-iterator) ≡ put_all (λ name entry. entry) l.initial.all (finmap.entries l.changed)
