use Rattle.std.proofs.Common.{◌≡◌, ◌++◌, map, drop}
use Rattle.xds_admin.specs.Jointly.{none_told}
use Rattle.xds_admin.proofs.joint.zeros.Given as goal

abbrev pub invariant-loop-one : goal.invariant-loop-one
invariant-loop-one l = l.zeros.items ++ none_told (map (λ v. v.items) (drop l.one-index l.made.items)) ≡ none_told (map (λ v. v.items) l.made.items)
