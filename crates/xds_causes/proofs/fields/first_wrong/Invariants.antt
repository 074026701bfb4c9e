use Rattle.std.proofs.Common.{drop}
use Rattle.serde_json.specs.View.{view}
use Rattle.xds_causes.proofs.FirstWrong.{LeavesWrong}
use Rattle.xds_causes.proofs.fields.first_wrong.Given as goal

-- what is left decides
abbrev pub invariant-loop-field : goal.invariant-loop-field
invariant-loop-field l = LeavesWrong l.fields (view l.value) (drop l.field-index l.fields)
