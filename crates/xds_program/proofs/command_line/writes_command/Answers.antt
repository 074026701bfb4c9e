use Rattle.std.proofs.Common.{codes}
use Rattle.clap.specs.Words.{new_app}
use Rattle.xds_program.specs.CommandLine.{required, text_option}
use Rattle.xds_program.proofs.CommandLine.{one_option_or}
use Rattle.xds_program.proofs.command_line.writes_command.Goals as goal

pub returns : goal.returns
returns c =
    one_option_or (new_app (codes "writes")) (required (text_option (codes "store"))) _ c.store_option.result _ c.named.ensures c.store_option.ensures c.with_option.ensures
