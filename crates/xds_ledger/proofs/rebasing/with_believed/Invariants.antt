use Rattle.std.proofs.Common.{◌≡◌, Some}
use Rattle.std.specs.FinMap as finmap
use Rattle.xds_resource.specs.Names.{pairs, put_all}
use Rattle.xds_ledger.proofs.rebasing.with_believed.Given as goal

-- what is left decides
abbrev pub invariant-loop-name : goal.invariant-loop-name
invariant-loop-name l =
    put_all (λ name number. Some (finmap.get l.beliefs name)) l.all (pairs l.name-iterator)
    ≡ put_all (λ name number. Some (finmap.get l.beliefs name)) l.initial.all (finmap.entries l.names)
