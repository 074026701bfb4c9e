use Rattle.std.proofs.Common.{[], ◌∷◌, ◌∙◌, length, ap, append_assoc, arith}
use Rattle.xds_changes.proofs.Handings.{handed_push}
use Rattle.xds_changes.proofs.input.hand_all.Goals as goal

pub loop-change-preserved : goal.loop-change-preserved
loop-change-preserved g c =
    let at = c.loop-change in
    let step = c.in-Some.ensures.steps in
    let shorter = ap length step.0 in
    let counted = at.invariant.counted in
    record {
      given = handed_push (g.H.Hands.hands) c.args.hands.now at.hands c.hand.new.self at.yielded c.in-Some.change at.invariant.given c.hand.ensures;
      all = append_assoc at.yielded (c.in-Some.change ∷ []) _ ∙ rw (← step.0) at.invariant.all;
      counted = omega (arith, step.1, counted, shorter);
    }
