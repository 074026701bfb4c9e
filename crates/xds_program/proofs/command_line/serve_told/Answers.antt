use Rattle.std.proofs.Common.{codes}
use Rattle.xds_program.specs.CommandLine.{flag_option, number_option, serve_start, text_option}
use Rattle.xds_program.proofs.CommandLine.{one_option, one_option_or}
use Rattle.xds_program.proofs.command_line.serve_told.Goals as goal

pub returns : goal.returns
returns c =
    let o0 = one_option serve_start (flag_option (codes "keep-going")) _ _ c.flag_option.result c.in_ok-serve.ensures c.flag_option.ensures c.in_ok-serve-2.ensures in
    let o1 = one_option _ (flag_option (codes "log")) _ _ c.flag_option-2.result o0 c.flag_option-2.ensures c.in_ok-serve-3.ensures in
    let o2 = one_option _ (number_option (codes "max-streams")) _ _ c.number_option.result o1 c.number_option.ensures c.in_ok-serve-4.ensures in
    let o3 = one_option _ (number_option (codes "idle-seconds")) _ _ c.number_option-2.result o2 c.number_option-2.ensures c.in_ok-serve-5.ensures in
    let o4 = one_option _ (number_option (codes "admin-port")) _ _ c.number_option-3.result o3 c.number_option-3.ensures c.in_ok-serve-6.ensures in
    one_option_or _ (text_option (codes "record")) _ c.text_option.result _ o4 c.text_option.ensures c.with_option-6.ensures
