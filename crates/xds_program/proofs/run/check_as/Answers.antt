use Rattle.std.proofs.Common.{◌∙◌, sym}
use Rattle.xds_program.specs.Outcomes.{RunsCheck, RunsSoFar}
use Rattle.xds_program.proofs.Behind.{run_first, run_second}
use Rattle.xds_program.proofs.run.check_as.Goals as goal

pub returns-then-is_read_whole : goal.returns-then-is_read_whole
returns-then-is_read_whole g c = run_first _ (RunsSoFar _ _ _) RunsCheck _ _ (sym c.is_read_whole.ensures ∙ c.if-is_read_whole.true) c.check_whole.ensures

pub returns : goal.returns
returns g c = run_second _ (RunsSoFar _ _ _) RunsCheck _ _ (sym c.is_read_whole.ensures ∙ c.if-is_read_whole.false) c.check.ensures
