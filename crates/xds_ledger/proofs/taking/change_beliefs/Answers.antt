use Rattle.std.proofs.Common.{sym, ◌∙◌}
use Rattle.std.proofs.lemmas.Result.{on_ok_weaker}
use Rattle.xds_resource.proofs.NameMaps.{same_names}
use Rattle.xds_ledger.proofs.taking.change_beliefs.Goals as goal

pub returns-clause-ok : goal.returns-clause-ok
returns-clause-ok g c = λ before is. on_ok_weaker c.change.result (λ made. same_names _ _ (λ q. made q ∙ sym (c.in_ok-changes.ensures.ok before is q))) c.change.ensures.ok
