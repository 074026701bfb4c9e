use Rattle.std.proofs.Common.{codes}
use Rattle.clap.specs.Words.{new_app}
use Rattle.xds_program.specs.CommandLine.{number_option, port_option, replicas_option, rest_port_option, workers_option}
use Rattle.xds_program.proofs.CommandLine.{one_option, one_option_or}
use Rattle.xds_program.proofs.command_line.serve_start.Goals as goal

pub returns : goal.returns
returns c =
    let o0 = one_option (new_app (codes "serve")) replicas_option _ _ c.replicas_option.result c.named.ensures c.replicas_option.ensures c.in_ok-serve.ensures in
    let o1 = one_option _ port_option _ _ c.port_option.result o0 c.port_option.ensures c.in_ok-serve-2.ensures in
    let o2 = one_option _ rest_port_option _ _ c.rest_port_option.result o1 c.rest_port_option.ensures c.in_ok-serve-3.ensures in
    let o3 = one_option _ (number_option (codes "streams")) _ _ c.number_option.result o2 c.number_option.ensures c.in_ok-serve-4.ensures in
    one_option_or _ workers_option _ c.workers_option.result _ o3 c.workers_option.ensures c.with_option-5.ensures
