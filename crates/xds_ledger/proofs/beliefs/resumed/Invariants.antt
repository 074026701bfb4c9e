use Rattle.std.proofs.Common.{◌≡◌, map, drop}
use Rattle.xds_resource.specs.Names.{put_all}
use Rattle.xds_ledger.specs.Parts.{told_as}
use Rattle.xds_ledger.proofs.beliefs.resumed.Given as goal

-- what is left decides
abbrev pub invariant-loop-name : goal.invariant-loop-name
invariant-loop-name l = put_all told_as l.next (map (λ p. (p.0.now, p.1.now)) (drop l.name-index l.versions)) ≡ put_all told_as l.initial.next (map (λ p. (p.0.now, p.1.now)) l.versions)
