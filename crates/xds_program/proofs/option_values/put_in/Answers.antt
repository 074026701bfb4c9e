use Rattle.std.proofs.Common.{subst}
use Rattle.clap.specs.Words.{found_of, rows_of}
use Rattle.xds_program.specs.Words.{Finds, IsAddress}
use Rattle.xds_program.proofs.Values.{no_put}
use Rattle.xds_program.proofs.option_values.put_in.Goals as goal

pub returns-in-None : goal.returns-in-None
returns-in-None c =
    no_put (rows_of (found_of c.args.given.now)) (λ x h. subst (Finds (IsAddress (rows_of (found_of c.args.given.now)))) c.in-None.is c.address.ensures x.addr h.addr)
