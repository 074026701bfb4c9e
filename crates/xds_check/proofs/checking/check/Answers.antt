use Rattle.std.proofs.lemmas.Result.{IfOk-weaker}
use Rattle.xds_check.proofs.OneVerdict.{well_told, first_told}
use Rattle.xds_check.proofs.checking.check.Goals as goal

pub returns-clause-well : goal.returns-clause-well
returns-clause-well c = IfOk-weaker c.first_broken-verdict.result _ _ (λ told is. well_told c.args.lines.now told is) c.first_broken-verdict.ensures.ok

pub returns-clause-first : goal.returns-clause-first
returns-clause-first c = IfOk-weaker c.first_broken-verdict.result _ _ (λ told is. first_told c.args.lines.now told is) c.first_broken-verdict.ensures.ok
