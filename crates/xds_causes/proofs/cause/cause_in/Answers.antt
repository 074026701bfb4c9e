use Rattle.std.proofs.Common.{◌∙◌, sym}
use Rattle.xds_causes.proofs.Causing.{behind_number, no_number, no_verb, no_words}
use Rattle.xds_causes.proofs.cause.cause_in.Goals as goal

pub returns-then-not-is_verb-clause-cause : goal.returns-then-not-is_verb-clause-cause
returns-then-not-is_verb-clause-cause c = no_verb c.args.text.now _ _ c.first_word.ensures (sym c.is_verb.ensures ∙ c.if-not-is_verb.true)

pub returns-in_default-clause-cause : goal.returns-in_default-clause-cause
returns-in_default-clause-cause c = no_words c.args.text.now _ c.first_word.result.1 c.first_word.ensures (sym c.is_verb.ensures ∙ c.if-not-is_verb.false) c.in_default.is

pub returns-then-not-is_replica_number-clause-cause : goal.returns-then-not-is_replica_number-clause-cause
returns-then-not-is_replica_number-clause-cause c =
    no_number c.args.text.now _ c.first_word.result.1 c.first_word.ensures (sym c.is_verb.ensures ∙ c.if-not-is_verb.false) c.in-Some.rest c.in-Some.is _ _ c.first_word-2.ensures
    (sym c.is_replica_number.ensures ∙ c.if-not-is_replica_number.true)

pub returns-clause-cause : goal.returns-clause-cause
returns-clause-cause c =
    behind_number c.args.text.now _ c.first_word.result.1 c.first_word.ensures (sym c.is_verb.ensures ∙ c.if-not-is_verb.false) c.in-Some.rest c.in-Some.is _ _ c.first_word-2.ensures
    c.cause_behind.result (sym c.is_replica_number.ensures ∙ c.if-not-is_replica_number.false) c.cause_behind.ensures.cause
