use Rattle.std.proofs.Common.{codes}
use Rattle.xds_program.specs.CommandLine.{flag_option, number_option, serve_told, text_option}
use Rattle.xds_program.proofs.CommandLine.{one_option, one_option_or}
use Rattle.xds_program.proofs.command_line.serve_begun.Goals as goal

pub returns : goal.returns
returns c =
    let o0 = one_option serve_told (number_option (codes "first-number")) _ _ c.number_option.result c.in_ok-serve.ensures c.number_option.ensures c.in_ok-serve-2.ensures in
    let o1 = one_option _ (text_option (codes "load")) _ _ c.text_option.result o0 c.text_option.ensures c.in_ok-serve-3.ensures in
    let o2 = one_option _ (text_option (codes "store")) _ _ c.text_option-2.result o1 c.text_option-2.ensures c.in_ok-serve-4.ensures in
    let o3 = one_option _ (text_option (codes "writes")) _ _ c.text_option-3.result o2 c.text_option-3.ensures c.in_ok-serve-5.ensures in
    one_option_or _ (flag_option (codes "hold")) _ c.flag_option.result _ o3 c.flag_option.ensures c.with_option-5.ensures
