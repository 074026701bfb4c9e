use Rattle.std.proofs.Common.{false, refl}
use Rattle.xds_program.specs.Outcomes.{RunsPlay, TellsBehind}
use Rattle.xds_program.proofs.Behind.{drawn, drawn_play}
use Rattle.xds_program.proofs.run.run_play.Goals as goal

pub returns : goal.returns
returns g c = drawn_play _ _ _ _ _ c.task.view_is (drawn _ (TellsBehind (λ cause. RunsPlay c.task.inside.trace)) _ _ _ c.drawn_or_done.ensures (record {
  cause = c.as_str.result.now;
  first = _;
  last = _;
  joined = record { before = refl; between = refl; after = refl; failed_before = refl; failed_between = refl; failed_after = refl };
  ends = c.play-status.ensures;
  is_note = false;
  told = c.tell_cause.ensures;
}))
