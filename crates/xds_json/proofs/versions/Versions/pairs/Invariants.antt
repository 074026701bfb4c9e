use Rattle.std.proofs.Common.{◌≡◌, ◌++◌, map}
use Rattle.std.specs.FinMap as finmap
use Rattle.xds_json.specs.Versions.{pairs_of}
use Rattle.xds_json.proofs.versions.Versions.pairs.Given as goal

abbrev pub invariant-loop-name : goal.invariant-loop-name
invariant-loop-name l = map (λ p. (p.0.now, p.1.now)) l.pairs.items ++ pairs_of l.name-iterator ≡ finmap.entries l.self
