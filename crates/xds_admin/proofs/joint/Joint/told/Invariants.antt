use Rattle.std.proofs.Common.{◌≡◌, map, drop, string_bytes}
use Rattle.xds_admin.specs.Jointly.{all_told, told_in, told_so_far}
use Rattle.xds_admin.proofs.joint.Joint.told.Given as goal

-- what is left decides
abbrev pub invariant-loop-line : goal.invariant-loop-line
invariant-loop-line l =
    all_told (map (λ w. (w.0, string_bytes w.1)) l.self.whys.items) (map (λ v. v.items) l.self.made.items) l.are_stored (drop l.line-index l.self.lines.items) l.places.items (told_so_far l.telling)
    ≡ told_in l.self l.are_stored
