use Rattle.std.proofs.Common.{Some, ◌∙◌}
use Rattle.xds_resource.specs.Names.{put_all}
use Rattle.xds_ledger.specs.Sharing.{over}
use Rattle.xds_ledger.proofs.Fitting.{copied}
use Rattle.xds_ledger.proofs.listed.Listed.try_copy.Goals as goal

pub returns-clause-ok : goal.returns-clause-ok
returns-clause-ok c =
    (λ i. record {
      mark = c.self.inside.mark;
      names = over (c.in_ok-base.ensures.ok i) ((c.in_ok-added.ensures.ok ∙ (λ j. put_all (λ name number. Some number) (c.new.ensures j) (c.iter.ensures j)) ∙ copied c.self.inside.added) i);
      sent_mark = c.self.inside.sent_mark;
    }) ∙ c.self.view_is
