use Rattle.std.proofs.Common.{ap, ◌∙◌}
use Rattle.std.proofs.lemmas.Result.{on_ok_weaker}
use Rattle.xds_ledger.specs.Listed.{Listed, with_name}
use Rattle.xds_ledger.specs.Sharing.{over}
use Rattle.xds_ledger.proofs.SharedNames.{over_put}
use Rattle.xds_ledger.proofs.listed.Listed.put.Goals as goal

pub returns-clause-ok : goal.returns-clause-ok
returns-clause-ok c =
    on_ok_weaker c.put.result
    (λ is. (λ i. record {
      mark = c.self.inside.mark;
      names = (ap (over c.self.inside.base) is ∙ over_put c.self.inside.base c.self.inside.added c.args.name.now 0) i;
      sent_mark = c.self.inside.sent_mark;
    }) ∙ ap (λ (l : Listed). with_name l c.args.name.now) c.self.view_is)
    c.put.ensures.ok
