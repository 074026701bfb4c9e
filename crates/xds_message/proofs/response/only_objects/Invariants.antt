use Rattle.std.proofs.Common.{All, take}
use Rattle.serde_json.specs.View.{view}
use Rattle.xds_json.specs.Spelling.{IsObject}
use Rattle.xds_message.proofs.response.only_objects.Given as goal

abbrev pub invariant-loop-value : goal.invariant-loop-value
invariant-loop-value l = All (λ v. IsObject (view v)) (take l.value-index l.value-items)
