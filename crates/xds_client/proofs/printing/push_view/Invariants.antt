use Rattle.std.proofs.Common.{◌≡◌, ◌++◌, map, string_bytes}
use Rattle.std.specs.List.{flat_map}
use Rattle.xds_resource.specs.Names.{pairs}
use Rattle.xds_client.specs.Lines.{holding_line, view_lines}
use Rattle.xds_client.proofs.printing.push_view.Given as goal

abbrev pub invariant-loop-name : goal.invariant-loop-name
invariant-loop-name l =
    string_bytes l.text ++ flat_map (holding_line l.variant) (map (λ e. e.1) (pairs l._name-iterator)) ≡ string_bytes l.initial.text ++ view_lines l.variant l.view
