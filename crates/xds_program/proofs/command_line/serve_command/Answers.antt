use Rattle.std.proofs.Common.{codes}
use Rattle.xds_program.specs.CommandLine.{flag_option, serve_begun, text_option}
use Rattle.xds_program.proofs.CommandLine.{one_option, one_option_or}
use Rattle.xds_program.proofs.command_line.serve_command.Goals as goal

pub returns : goal.returns
returns c =
    let o0 = one_option serve_begun (text_option (codes "admin-token")) _ _ c.text_option.result c.in_ok-serve.ensures c.text_option.ensures c.in_ok-serve-2.ensures in
    let o1 = one_option _ (flag_option (codes "log-json")) _ _ c.flag_option.result o0 c.flag_option.ensures c.in_ok-serve-3.ensures in
    let o2 = one_option _ (text_option (codes "from")) _ _ c.text_option-2.result o1 c.text_option-2.ensures c.in_ok-serve-4.ensures in
    let o3 = one_option _ (flag_option (codes "lint")) _ _ c.flag_option-2.result o2 c.flag_option-2.ensures c.in_ok-serve-5.ensures in
    let o4 = one_option _ (text_option (codes "validate")) _ _ c.text_option-3.result o3 c.text_option-3.ensures c.in_ok-serve-6.ensures in
    let o5 = one_option _ (flag_option (codes "pass-unvalidated")) _ _ c.flag_option-3.result o4 c.flag_option-3.ensures c.in_ok-serve-7.ensures in
    one_option_or _ (flag_option (codes "refuse-beyond-frame")) _ c.flag_option-4.result _ o5 c.flag_option-4.ensures c.with_option-7.ensures
