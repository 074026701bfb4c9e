use Rattle.xds_program.specs.CommandLine.{answer_command, check_command, play_command, wanting_command}
use Rattle.xds_program.proofs.CommandLine.{one_more, one_more_or}
use Rattle.xds_program.proofs.command_line.first_commands.Goals as goal

pub returns : goal.returns
returns c =
    let one = one_more wanting_command answer_command _ _ c.wanting_command.ensures (c.in_ok-xds.ensures answer_command c.answer_command.ensures) in
    let two = one_more _ play_command _ _ one (c.in_ok-xds-2.ensures play_command c.play_command.ensures) in
    one_more_or _ check_command _ _ _ two c.check_command.ensures c.with_command-3.ensures
