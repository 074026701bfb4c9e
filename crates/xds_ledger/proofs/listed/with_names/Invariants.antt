use Rattle.std.proofs.Common.{◌≡◌, Some}
use Rattle.xds_resource.specs.Names.{pairs, put_all}
use Rattle.xds_ledger.proofs.listed.with_names.Given as goal

-- what is left decides
abbrev pub invariant-loop-name : goal.invariant-loop-name
invariant-loop-name l = put_all (λ name number. Some number) l.all (pairs l.name-iterator) ≡ put_all (λ name number. Some number) l.initial.all (pairs l.initial.name-iterator)
