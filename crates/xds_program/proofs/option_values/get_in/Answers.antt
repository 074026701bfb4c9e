use Rattle.clap.specs.Words.{found_of, rows_of}
use Rattle.xds_program.proofs.Values.{no_get}
use Rattle.xds_program.proofs.option_values.get_in.Goals as goal

pub returns-in-None : goal.returns-in-None
returns-in-None c = no_get (rows_of (found_of c.args.given.now)) (λ x h. c.in-None.ensures (x.addr, x.kind) (h.addr, h.kind))
