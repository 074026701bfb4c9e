use Rattle.xds_program.specs.CommandLine.{client_command, first_commands, poll_command, serve_command}
use Rattle.xds_program.proofs.CommandLine.{one_more, one_more_or}
use Rattle.xds_program.proofs.command_line.serving_commands.Goals as goal

pub returns : goal.returns
returns c =
    let one = one_more first_commands serve_command _ _ c.in_ok-xds.ensures (c.in_ok-xds-2.ensures serve_command c.serve_command.ensures) in
    let two = one_more _ client_command _ _ one (c.in_ok-xds-3.ensures client_command c.client_command.ensures) in
    one_more_or _ poll_command _ _ _ two c.poll_command.ensures c.with_command-3.ensures
