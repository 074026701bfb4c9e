use Rattle.std.proofs.Common.{codes}
use Rattle.xds_program.specs.CommandLine.{name_words, number_option, poll_start, text_option}
use Rattle.xds_program.proofs.CommandLine.{one_option, one_option_or}
use Rattle.xds_program.proofs.command_line.poll_command.Goals as goal

pub returns : goal.returns
returns c =
    let o0 = one_option poll_start (text_option (codes "version")) _ _ c.text_option.result c.in_ok-poll.ensures c.text_option.ensures c.in_ok-poll-2.ensures in
    let o1 = one_option _ (number_option (codes "seconds")) _ _ c.seconds_option.result o0 c.seconds_option.ensures c.in_ok-poll-3.ensures in
    let o2 = one_option _ (text_option (codes "cluster")) _ _ c.cluster_option.result o1 c.cluster_option.ensures c.in_ok-poll-4.ensures in
    one_option_or _ name_words _ c.name_words.result _ o2 c.name_words.ensures c.with_option-4.ensures
