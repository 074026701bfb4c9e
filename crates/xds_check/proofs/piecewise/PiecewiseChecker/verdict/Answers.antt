use Rattle.std.proofs.Common.{sym, subst}
use Rattle.xds_check.specs.Texts.{IsFirstBad}
use Rattle.xds_check.proofs.PieceByPiece.{held_some, read_unended}
use Rattle.xds_check.proofs.piecewise.PiecewiseChecker.verdict.Goals as goal

pub returns-clause-refused : goal.returns-clause-refused
returns-clause-refused c = (
  c.fault.ensures.refusal,
  λ bytes r.
      let some = held_some c.args.self.now.held.len c.args.self.now.held.items c.is_empty.result c.is_empty.ensures c.args.self.now.held.ok.0 c.if-is_empty.false in
      subst (IsFirstBad bytes) (sym c.fault.ensures.line) (read_unended bytes c.args.self.now some r),
)
