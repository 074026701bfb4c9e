use Rattle.std.proofs.Common.{◌≡◌, ◌++◌, map, drop, string_bytes}
use Rattle.xds_play.specs.Shown.{holding_lines}
use Rattle.xds_play.proofs.show.push_holdings.Given as goal

abbrev pub invariant-loop-holding : goal.invariant-loop-holding
invariant-loop-holding l =
    string_bytes l.text ++ holding_lines l.variant (map (λ h. h.now) (drop l.holding-index l.holding-items)) ≡ string_bytes l.initial.text ++ holding_lines l.variant (map (λ h. h.now) l.holding-items)
