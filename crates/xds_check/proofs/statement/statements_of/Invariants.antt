use Rattle.std.proofs.Common.{◌≡◌, ◌++◌, List, length, map, All}
use Rattle.std.specs.List.{AllZip}
use Rattle.std.specs.Vec.Iter.{into_iter_items, into_iter_len}
use Rattle.serde_json.specs.Data.{Data}
use Rattle.serde_json.specs.View.{view}
use Rattle.xds_ledger.specs.declared.variant.VariantName.TheVariants.{StateOfTheWorld}
use Rattle.xds_check.specs.Answers.{IsStatement}
use Rattle.xds_check.specs.Texts.{IsStated}
use Rattle.xds_check.proofs.statement.statements_of.Given as goal

abbrev pub invariant-loop-value : goal.invariant-loop-value
invariant-loop-value l =
    (done : List Data) × (map view l.fn.values.items ≡ done ++ map view (into_iter_items l.value-iterator)) × AllZip (IsStated l.fn.kind) done l.statements.items
    × (into_iter_len l.value-iterator ≡ length (into_iter_items l.value-iterator)) × All (IsStatement StateOfTheWorld l.fn.kind) l.statements.items
