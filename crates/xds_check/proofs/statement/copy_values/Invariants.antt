use Rattle.std.proofs.Common.{◌≡◌, take, map}
use Rattle.serde_json.specs.View.{view}
use Rattle.xds_resource.specs.Resources.{value_of}
use Rattle.xds_check.proofs.statement.copy_values.Given as goal

abbrev pub invariant-loop-statement : goal.invariant-loop-statement
invariant-loop-statement l = map view l.values.items ≡ map (λ x. value_of x.body) (take l.statement-index l.statements.items)
