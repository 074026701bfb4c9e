use Rattle.std.proofs.Common.{◌≡◌, None, map, drop, string_bytes}
use Rattle.std.specs.Option.{option_map}
use Rattle.xds_checker.specs.Checked.{why_after}
use Rattle.xds_checker.proofs.checked_changes.why_of.Given as goal

-- what is left decides
abbrev pub invariant-loop-number : goal.invariant-loop-number
invariant-loop-number l =
    why_after (option_map (λ t. t.now) l.found) (map (λ w. (w.0, string_bytes w.1)) (drop l.number-index l.whys.items)) l.line ≡ why_after None (map (λ w. (w.0, string_bytes w.1)) l.whys.items) l.line
