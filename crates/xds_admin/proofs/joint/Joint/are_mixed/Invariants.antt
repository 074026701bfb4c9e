use Rattle.std.proofs.Common.{◌≡◌, false, map, drop}
use Rattle.xds_admin.specs.Jointly.{are_any_mixed}
use Rattle.xds_admin.proofs.joint.Joint.are_mixed.Given as goal

-- what is left decides
abbrev pub invariant-loop-changes : goal.invariant-loop-changes
invariant-loop-changes l = are_any_mixed l.is_one (map (λ v. v.items) (drop l.changes-index l.self.changes.items)) ≡ are_any_mixed false (map (λ v. v.items) l.self.changes.items)
