use Rattle.clap.specs.Words.{found_of, rows_of}
use Rattle.xds_program.proofs.Values.{no_delete}
use Rattle.xds_program.proofs.option_values.delete_in.Goals as goal

pub returns-in-None : goal.returns-in-None
returns-in-None c = no_delete (rows_of (found_of c.args.given.now)) (λ x h. c.in-None.ensures (x.addr, x.replica, x.kind) (h.addr, h.replica, h.kind))
