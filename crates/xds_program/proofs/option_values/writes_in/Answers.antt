use Rattle.std.proofs.Common.{◌∙◌, ap, option_map, string_bytes, sym}
use Rattle.clap.specs.Words.{found_of, rows_of}
use Rattle.xds_program.proofs.Values.{no_some, no_writes}
use Rattle.xds_program.proofs.option_values.writes_in.Goals as goal

pub returns-in-None : goal.returns-in-None
returns-in-None c =
    no_writes (rows_of (found_of c.args.given.now)) (λ x h. no_some _ x.store (sym c.in_ok-store.ensures ∙ ap (option_map string_bytes) c.in-None.is) h.store)
