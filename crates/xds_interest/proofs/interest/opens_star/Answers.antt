use Rattle.std.proofs.Common.{sym, ◌∙◌}
use Rattle.xds_interest.proofs.Made.{closed_star}
use Rattle.xds_interest.proofs.interest.opens_star.Goals as goal

pub returns-else-is_complete : goal.returns-else-is_complete
returns-else-is_complete c = c.if-is_complete.false ∙ sym (closed_star _ _ (sym c.is_complete.ensures ∙ c.if-is_complete.false))
