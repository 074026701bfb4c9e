use Rattle.std.proofs.Common.{◌∙◌, sym}
use Rattle.xds_causes.proofs.Causing.{deletion_known, deletion_unknown}
use Rattle.xds_causes.proofs.cause.deletion_cause.Goals as goal

pub returns-then-is_type : goal.returns-then-is_type
returns-then-is_type c =
    deletion_known c.args.rest c.in-Some.rest _ _ c.name_cause.result c.in-Some.is c.first_word.ensures (sym c.is_type.ensures ∙ c.if-is_type.true) c.name_cause.ensures

pub returns-else-is_type : goal.returns-else-is_type
returns-else-is_type c = deletion_unknown c.args.rest c.in-Some.rest _ _ c.in-Some.is c.first_word.ensures (sym c.is_type.ensures ∙ c.if-is_type.false)
