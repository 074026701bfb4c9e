use Rattle.std.proofs.Common.{ap, ◌∙◌}
use Rattle.std.proofs.lemmas.Result.{on_ok_weaker}
use Rattle.xds_ledger.specs.Changes.{believed_now}
use Rattle.xds_ledger.proofs.Overlaying.{overlaid_changed}
use Rattle.xds_ledger.proofs.believed.Beliefs.change.Goals as goal

pub returns-clause-ok : goal.returns-clause-ok
returns-clause-ok c =
    on_ok_weaker c.change.result
    (λ made. λ q. overlaid_changed c.self.inside.base c.self.inside.changed c.change.new.differences c.args.changes made q ∙ ap (λ m. believed_now c.args.changes m q) c.self.view_is)
    c.change.ensures.ok
