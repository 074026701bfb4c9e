use Rattle.std.proofs.Common.{sym, ◌∙◌}
use Rattle.xds_interest.proofs.Again.{closed_said}
use Rattle.xds_interest.proofs.interest.star_after.Goals as goal

pub returns-else-is_complete : goal.returns-else-is_complete
returns-else-is_complete c = c.if-is_complete.false ∙ sym (closed_said _ _ _ (sym c.is_complete.ensures ∙ c.if-is_complete.false))
