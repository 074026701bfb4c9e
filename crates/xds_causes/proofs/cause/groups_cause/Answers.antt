use Rattle.std.proofs.Common.{◌∙◌, sym}
use Rattle.xds_causes.proofs.Causing.{no_groups, with_groups}
use Rattle.xds_causes.proofs.cause.groups_cause.Goals as goal

pub returns-then-are-clause-cause : goal.returns-then-are-clause-cause
returns-then-are-clause-cause c =
    with_groups c.args.rest c.in-Some.rest _ _ c.resource_cause.result c.in-Some.is c.first_word.ensures (sym c.if-are.true ∙ c.in_ok-are.ensures.are) c.resource_cause.ensures.cause

pub returns-else-are-clause-cause : goal.returns-else-are-clause-cause
returns-else-are-clause-cause c = no_groups c.args.rest c.in-Some.rest _ _ c.in-Some.is c.first_word.ensures (sym c.if-are.false ∙ c.in_ok-are.ensures.are)
