use Rattle.std.proofs.Common.{◌≡◌, take, map}
use Rattle.xds_message.specs.Responses.{resource_of}
use Rattle.xds_check.specs.Answers.{labelled_resource}
use Rattle.xds_check.proofs.statement.labelled_values.Given as goal

abbrev pub invariant-loop-statement : goal.invariant-loop-statement
invariant-loop-statement l = map resource_of l.values.items ≡ map labelled_resource (take l.statement-index l.statements.items)
