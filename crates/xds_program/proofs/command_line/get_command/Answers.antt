use Rattle.std.proofs.Common.{codes}
use Rattle.xds_program.specs.CommandLine.{asking_command, name_words, number_option, text_option}
use Rattle.xds_program.proofs.CommandLine.{one_option, one_option_or}
use Rattle.xds_program.proofs.command_line.get_command.Goals as goal

pub returns : goal.returns
returns c =
    let o0 = one_option (asking_command (codes "get")) (number_option (codes "replica")) _ _ c.number_option.result c.in_ok-get.ensures c.number_option.ensures c.in_ok-get-2.ensures in
    let o1 = one_option _ (text_option (codes "type")) _ _ c.text_option.result o0 c.text_option.ensures c.in_ok-get-3.ensures in
    one_option_or _ (name_words) _ c.name_words.result _ o1 c.name_words.ensures c.with_option-3.ensures
