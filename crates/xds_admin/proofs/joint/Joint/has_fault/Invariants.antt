use Rattle.std.proofs.Common.{◌≡◌, is_err, drop}
use Rattle.std.specs.List.{list_any}
use Rattle.xds_admin.proofs.joint.Joint.has_fault.Given as goal

-- what is left decides
abbrev pub invariant-loop-line : goal.invariant-loop-line
invariant-loop-line l = list_any (λ x. is_err x.1) (drop l.line-index l.self.lines.items) ≡ list_any (λ x. is_err x.1) l.self.lines.items
