use Rattle.std.proofs.Common.{◌∙◌, subst, sym}
use Rattle.clap.specs.Words.{found_of, rows_of}
use Rattle.xds_program.specs.Words.{AsksServe, Finds}
use Rattle.xds_program.proofs.Ports.{above, no_port, no_rest_port, not_alone, not_apart}
use Rattle.xds_program.proofs.option_values.serving.Goals as goal
use Rattle.xds_program.proofs.option_values.serving.Goals.{else-has_ports-via-then-has_ports+then-has_ports-2+then-are_apart+else-is_alone, else-has_ports-via-then-has_ports+then-has_ports-2+else-are_apart}
use Rattle.xds_program.proofs.option_values.serving.Goals.{else-has_ports-via-then-has_ports+else-has_ports-2, else-has_ports-via-else-has_ports}

pub returns-in_err-replicas : goal.returns-in_err-replicas
returns-in_err-replicas c =
    subst (Finds (AsksServe (rows_of (found_of c.args.given.now)))) (sym c.from_residual.ensures) (λ s h. c.in_err-replicas.ensures s.replicas h.replicas)

pub returns-in_err-port : goal.returns-in_err-port
returns-in_err-port c =
    subst (Finds (AsksServe (rows_of (found_of c.args.given.now)))) (sym c.from_residual-in_err-port.ensures) (λ s h. c.in_err-port.ensures s.port h.port)

pub returns-in_err-rest_port : goal.returns-in_err-rest_port
returns-in_err-rest_port c =
    subst (Finds (AsksServe (rows_of (found_of c.args.given.now)))) (sym c.from_residual-in_err-rest_port.ensures) (λ s h. c.in_err-rest_port.ensures s.rest_port h.rest_port)

pub returns-else-has_ports : goal.returns-else-has_ports
returns-else-has_ports c =
    let replicas = c.in_ok-replicas.ensures in
    let port = c.in_ok-port.ensures in
    let rest_port = c.in_ok-rest_port.ensures in
    let admin = c.number-admin_port.ensures in
    elim c.else-has_ports.branch [
      | else-has_ports-via-then-has_ports+then-has_ports-2+then-are_apart+else-is_alone w ↦ not_alone _ _ _ _ _ replicas port rest_port admin (sym w.is_alone.ensures ∙ w.if-is_alone.false)
      | else-has_ports-via-then-has_ports+then-has_ports-2+else-are_apart w ↦ not_apart _ _ _ _ _ replicas port rest_port admin (sym w.are_apart.ensures ∙ w.if-are_apart.false)
      | else-has_ports-via-then-has_ports+else-has_ports-2 w ↦ no_rest_port _ _ _ _ _ replicas port rest_port admin (above _ _ w.if-has_ports-2.false w.has_ports-then-has_ports.ensures)
      | else-has_ports-via-else-has_ports w ↦ no_port _ _ _ _ _ replicas port rest_port admin (above _ _ w.if-has_ports.false c.has_ports.ensures)
    ]
