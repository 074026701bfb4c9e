use Rattle.std.proofs.Common.{◌∙◌, inr, sym}
use Rattle.xds_causes.proofs.Causing.{behind_put, behind_put_in, third_verb, words_of}
use Rattle.xds_causes.proofs.cause.cause_behind.Goals as goal

pub returns-then-is_put-clause-cause : goal.returns-then-is_put-clause-cause
returns-then-is_put-clause-cause c = behind_put c.args.verb.now (words_of c.args.rest) c.resource_cause.result (sym c.is_put.ensures ∙ c.if-is_put.true) c.resource_cause.ensures.cause

pub returns-then-is_put_in-clause-cause : goal.returns-then-is_put_in-clause-cause
returns-then-is_put_in-clause-cause c =
    behind_put_in c.args.verb.now (words_of c.args.rest) c.groups_cause.result (sym c.is_put_in.ensures ∙ c.if-is_put_in.true) c.groups_cause.ensures.cause

pub returns-clause-cause : goal.returns-clause-cause
returns-clause-cause c =
    inr (inr (third_verb c.args.verb.now c.requires (sym c.is_put.ensures ∙ c.if-is_put.false) (sym c.is_put_in.ensures ∙ c.if-is_put_in.false), c.deletion_cause.ensures))
