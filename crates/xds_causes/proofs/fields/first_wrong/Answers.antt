use Rattle.serde_json.specs.View.{view}
use Rattle.xds_causes.proofs.FirstWrong.{wrong_here}
use Rattle.xds_causes.proofs.fields.first_wrong.Goals as goal

pub returns-then-branch-clause-first : goal.returns-then-branch-clause-first
returns-then-branch-clause-first c =
    wrong_here c.args.fields.now (view c.args.value.now) c.loop-field.field-index _ c.in_ok-is_wrong.field-0 c.loop-field-test.true c.loop-field.invariant c.in_ok-is_wrong.ensures.wrong
    c.if-branch.true
