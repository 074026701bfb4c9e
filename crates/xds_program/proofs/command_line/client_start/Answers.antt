use Rattle.std.proofs.Common.{codes}
use Rattle.clap.specs.Words.{new_app}
use Rattle.xds_program.specs.CommandLine.{required, text_option}
use Rattle.xds_program.proofs.CommandLine.{one_option, one_option_or}
use Rattle.xds_program.proofs.command_line.client_start.Goals as goal

pub returns : goal.returns
returns c =
    let o0 = one_option (new_app (codes "client")) (required (text_option (codes "addr"))) _ _ c.addr_option.result c.named-client.ensures c.addr_option.ensures c.in_ok-client.ensures in
    let o1 = one_option _ (required (text_option (codes "variant"))) _ _ c.variant_option.result o0 c.variant_option.ensures c.in_ok-client-2.ensures in
    one_option_or _ (required (text_option (codes "type"))) _ c.type_option.result _ o1 c.type_option.ensures c.with_option-3.ensures
