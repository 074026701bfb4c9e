use Rattle.std.proofs.Common.{◌≡◌, ◌++◌, List, length, map, All}
use Rattle.std.specs.List.{AllZip}
use Rattle.std.specs.Vec.Iter.{into_iter_items, into_iter_len}
use Rattle.xds_message.specs.DeltaMessages.{VersionedResource}
use Rattle.xds_message.specs.Responses.{resource_of}
use Rattle.xds_ledger.specs.declared.variant.VariantName.TheVariants.{Delta}
use Rattle.xds_check.specs.Answers.{IsStatement}
use Rattle.xds_check.specs.Texts.{IsLabelled}
use Rattle.xds_check.proofs.statement.labelled_statements.Given as goal

abbrev pub invariant-loop-resource : goal.invariant-loop-resource
invariant-loop-resource l =
    (done : List VersionedResource) × (map resource_of l.fn.resources.items ≡ done ++ map resource_of (into_iter_items l.resource-iterator)) × AllZip (IsLabelled l.fn.kind) done l.statements.items
    × (into_iter_len l.resource-iterator ≡ length (into_iter_items l.resource-iterator)) × All (IsStatement Delta l.fn.kind) l.statements.items
