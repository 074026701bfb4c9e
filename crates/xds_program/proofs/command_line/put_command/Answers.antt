use Rattle.std.proofs.Common.{codes}
use Rattle.xds_program.specs.CommandLine.{asking_command, flag_option}
use Rattle.xds_program.proofs.CommandLine.{one_option, one_option_or}
use Rattle.xds_program.proofs.command_line.put_command.Goals as goal

pub returns : goal.returns
returns c =
    let o0 = one_option (asking_command (codes "put")) (flag_option (codes "dry-run")) _ _ c.dry_run_option.result c.in_ok-put.ensures c.dry_run_option.ensures c.in_ok-put-2.ensures in
    one_option_or _ (flag_option (codes "all-or-nothing")) _ c.flag_option.result _ o0 c.flag_option.ensures c.with_option-2.ensures
