use Rattle.std.proofs.Common.{[], ◌∷◌, ◌∙◌, length, ap, append_assoc, arith}
use Rattle.xds_node.specs.Holdings.{share_holding}
use Rattle.xds_node.proofs.Steps.{shares_one}
use Rattle.xds_node.specs.Pieces.{piece_entries, piece_before}
use Rattle.xds_node.proofs.node.history.share.Goals as goal

pub loop-segment-preserved : goal.loop-segment-preserved
loop-segment-preserved g c =
    let at = c.loop-segment in
    let step = c.in-Some.ensures.steps in
    let shorter = ap length step.0 in
    let counted = at.invariant.counted in
    record {
      given = shares_one piece_before piece_entries c.args.token.now at.token c.segment.inside.token c.give.new.token at.yielded c.in-Some.segment at.invariant.given (c.segment.invariant.share ∙ ap (λ p. share_holding (piece_before p) (piece_entries p)) c.segment.view_is) c.give.ensures;
      all = append_assoc at.yielded (c.in-Some.segment ∷ []) _ ∙ rw (← step.0) at.invariant.all;
      counted = omega (arith, step.1, counted, shorter);
    }
