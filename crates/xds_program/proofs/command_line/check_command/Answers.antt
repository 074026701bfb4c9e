use Rattle.std.proofs.Common.{codes}
use Rattle.clap.specs.Words.{new_app}
use Rattle.xds_program.specs.CommandLine.{flag_option, text_option}
use Rattle.xds_program.proofs.CommandLine.{one_option, one_option_or}
use Rattle.xds_program.proofs.command_line.check_command.Goals as goal

pub returns : goal.returns
returns c =
    let o0 = one_option (new_app (codes "check")) (flag_option (codes "so-far")) _ _ c.flag_option.result c.named-check.ensures c.flag_option.ensures c.in_ok-check.ensures in
    let o1 = one_option _ (flag_option (codes "explain")) _ _ c.flag_option-2.result o0 c.flag_option-2.ensures c.in_ok-check-2.ensures in
    one_option_or _ (text_option (codes "picture")) _ c.picture_option.result _ o1 c.picture_option.ensures c.with_option-3.ensures
