use Rattle.std.proofs.Common.{◌∙◌, sym}
use Rattle.xds_program.proofs.wrong_values.wrong_number.Goals as goal

pub returns-else-has_numbers : goal.returns-else-has_numbers
returns-else-has_numbers c = (_, c.number.result, c.requires, c.number.ensures, sym c.has_numbers.ensures ∙ c.if-has_numbers.false)
