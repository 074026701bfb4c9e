use Rattle.std.proofs.Common.{◌∙◌, ap, option_map, sym}
use Rattle.clap.specs.Words.{found_of, rows_of}
use Rattle.xds_program.proofs.Values.{no_address_given}
use Rattle.xds_program.proofs.option_values.address_given.Goals as goal

pub returns-in-None : goal.returns-in-None
returns-in-None c =
    no_address_given c.args.option.now (rows_of (found_of c.args.given.now)) _ (sym c.word.ensures ∙ ap (option_map (λ w. w.now)) c.in-Some.is) c.in-None.ensures
