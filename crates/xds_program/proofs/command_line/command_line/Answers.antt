use Rattle.xds_program.specs.CommandLine.{delete_command, get_command, put_command, serving_commands, status_command, writes_command}
use Rattle.xds_program.proofs.CommandLine.{one_more, one_more_or}
use Rattle.xds_program.proofs.command_line.command_line.Goals as goal

pub returns : goal.returns
returns c =
    let one = one_more serving_commands writes_command _ _ c.in_ok-xds.ensures (c.in_ok-xds-2.ensures writes_command c.writes_command.ensures) in
    let two = one_more _ status_command _ _ one (c.in_ok-xds-3.ensures status_command c.status_command.ensures) in
    let three = one_more _ get_command _ _ two (c.in_ok-xds-4.ensures get_command c.get_command.ensures) in
    let four = one_more _ put_command _ _ three (c.in_ok-xds-5.ensures put_command c.put_command.ensures) in
    one_more_or _ delete_command _ _ _ four c.delete_command.ensures c.with_command-5.ensures
