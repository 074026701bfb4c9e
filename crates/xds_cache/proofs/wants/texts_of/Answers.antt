use Rattle.std.proofs.Common.{sym, ◌∙◌}
use Rattle.std.proofs.lemmas.List.{append-nil}
use Rattle.xds_cache.proofs.wants.texts_of.Goals as goal

pub returns-clause-ok : goal.returns-clause-ok
returns-clause-ok c = sym (append-nil _) ∙ (rw c.in-None.ensures.steps.0 at c.loop-name.invariant)
