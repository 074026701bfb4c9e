use Rattle.std.proofs.Common.{subst, sym, codes}
use Rattle.clap.specs.Words.{found_of, rows_of}
use Rattle.xds_program.specs.Words.{AsksBy, Finds}
use Rattle.xds_program.proofs.Values.{no_answer}
use Rattle.xds_program.proofs.option_values.answer_in.Goals as goal

pub returns-in_err-replica : goal.returns-in_err-replica
returns-in_err-replica c =
    subst (Finds (AsksBy (codes "answer") (rows_of (found_of c.args.given.now)))) (sym c.from_residual.ensures) (no_answer (rows_of (found_of c.args.given.now)) c.in_err-replica.ensures)
