use Rattle.std.specs.Prelude.{◌≡◌, length}
use Rattle.std.specs.Option.{option_map}
use Rattle.xds_changes.specs.MarkTexts.{pieces_in}
use Rattle.xds_changes.specs.Queries.{amp, wanted_by, wanted_in}
use Rattle.xds_changes.proofs.wanting.read_wanted.Given as goal

-- what is left decides
abbrev pub invariant-loop-part : goal.invariant-loop-part
invariant-loop-part l = wanted_by l.wanted (pieces_in amp (option_map (λ s. s.now) l.left)) ≡ wanted_in l.query

abbrev pub decreases-loop-part : goal.decreases-loop-part
decreases-loop-part l = length (pieces_in amp (option_map (λ s. s.now) l.left))
