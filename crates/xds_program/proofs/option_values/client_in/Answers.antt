use Rattle.std.proofs.Common.{subst}
use Rattle.clap.specs.Words.{found_of, rows_of}
use Rattle.xds_program.specs.Words.{AsksClient, Finds}
use Rattle.xds_program.proofs.Values.{no_client}
use Rattle.xds_program.proofs.option_values.client_in.Goals as goal

pub returns-in-None : goal.returns-in-None
returns-in-None c =
    no_client (rows_of (found_of c.args.given.now)) (subst (Finds (AsksClient (rows_of (found_of c.args.given.now)))) c.in-None.is c.in_ok-task.ensures)
