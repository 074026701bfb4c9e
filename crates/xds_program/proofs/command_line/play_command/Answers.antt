use Rattle.std.proofs.Common.{codes}
use Rattle.clap.specs.Words.{new_app}
use Rattle.xds_program.specs.CommandLine.{number_option, text_option}
use Rattle.xds_program.proofs.CommandLine.{one_option, one_option_or}
use Rattle.xds_program.proofs.command_line.play_command.Goals as goal

pub returns : goal.returns
returns c =
    let o0 = one_option (new_app (codes "play")) (number_option (codes "trace")) _ _ c.number_option.result c.named-play.ensures c.number_option.ensures c.in_ok-play.ensures in
    one_option_or _ (text_option (codes "picture")) _ c.picture_option.result _ o0 c.picture_option.ensures c.with_option-2.ensures
