use Rattle.std.proofs.Common.{◌∙◌, sym}
use Rattle.clap.specs.Words.{found_of, rows_of}
use Rattle.xds_program.proofs.Ports.{no_numbers}
use Rattle.xds_program.proofs.option_values.numbered.Goals as goal

pub returns-else-has_numbers : goal.returns-else-has_numbers
returns-else-has_numbers c =
    no_numbers (rows_of (found_of c.args.given.now)) _ _ c.in_ok-task.ensures c.number-first_number.ensures (sym c.has_numbers.ensures ∙ c.if-has_numbers.false)
