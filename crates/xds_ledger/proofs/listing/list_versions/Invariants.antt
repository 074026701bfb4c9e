use Rattle.std.proofs.Common.{◌≡◌, map, drop}
use Rattle.xds_ledger.specs.Lists.{with_said}
use Rattle.xds_ledger.proofs.listing.list_versions.Given as goal

-- what is left decides
abbrev pub invariant-loop-name : goal.invariant-loop-name
invariant-loop-name l = with_said l.all (map (λ p. p.0.now) (drop l.name-index l.versions)) ≡ with_said l.initial.all (map (λ p. p.0.now) l.versions)
