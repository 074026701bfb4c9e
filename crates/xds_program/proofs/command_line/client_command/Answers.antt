use Rattle.std.proofs.Common.{codes}
use Rattle.xds_program.specs.CommandLine.{client_start, name_words, number_option, required, text_option}
use Rattle.xds_program.proofs.CommandLine.{one_option, one_option_or}
use Rattle.xds_program.proofs.command_line.client_command.Goals as goal

pub returns : goal.returns
returns c =
    let o0 = one_option client_start (required (number_option (codes "responses"))) _ _ c.responses_option.result c.in_ok-client.ensures c.responses_option.ensures c.in_ok-client-2.ensures in
    let o1 = one_option _ (number_option (codes "seconds")) _ _ c.seconds_option.result o0 c.seconds_option.ensures c.in_ok-client-3.ensures in
    let o2 = one_option _ (text_option (codes "cluster")) _ _ c.cluster_option.result o1 c.cluster_option.ensures c.in_ok-client-4.ensures in
    one_option_or _ (required name_words) _ c.wanted_names.result _ o2 c.wanted_names.ensures c.with_option-4.ensures
