use Rattle.std.proofs.Common.{codes}
use Rattle.clap.specs.Words.{new_app}
use Rattle.xds_program.specs.CommandLine.{required, text_option}
use Rattle.xds_program.proofs.CommandLine.{one_option, one_option_or}
use Rattle.xds_program.proofs.command_line.asking_command.Goals as goal

pub returns : goal.returns
returns c =
    let o0 = one_option (new_app c.args.name.now) (required (text_option (codes "addr"))) _ _ c.addr_option.result c.named-command.ensures c.addr_option.ensures c.in_ok-command.ensures in
    one_option_or _ (text_option (codes "admin-token")) _ c.text_option.result _ o0 c.text_option.ensures c.with_option-2.ensures
