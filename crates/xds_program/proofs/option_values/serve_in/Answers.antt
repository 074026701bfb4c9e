use Rattle.std.proofs.Common.{subst}
use Rattle.clap.specs.Words.{found_of, rows_of}
use Rattle.xds_program.specs.Words.{AsksServed, Finds}
use Rattle.xds_program.proofs.Values.{no_serve}
use Rattle.xds_program.proofs.option_values.serve_in.Goals as goal

pub returns-in-None : goal.returns-in-None
returns-in-None c =
    no_serve (rows_of (found_of c.args.given.now)) (subst (Finds (AsksServed (rows_of (found_of c.args.given.now)))) c.in-None.is c.in_ok-task.ensures)
