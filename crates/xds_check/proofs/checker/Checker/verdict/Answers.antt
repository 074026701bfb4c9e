use Rattle.xds_check.proofs.LineByLine.{judged_verdict}
use Rattle.xds_check.proofs.OneVerdict.{well_told, first_told}
use Rattle.xds_check.proofs.checker.Checker.verdict.Goals as goal

pub returns-clause-well : goal.returns-clause-well
returns-clause-well c = λ lines h. well_told lines c.args.self.now.broken (judged_verdict lines c.args.self.now.judges c.args.self.now.broken h.judged)

pub returns-clause-first : goal.returns-clause-first
returns-clause-first c = λ lines h. first_told lines c.args.self.now.broken (judged_verdict lines c.args.self.now.judges c.args.self.now.broken h.judged)
