use Rattle.std.proofs.Common.{ap, ◌∙◌}
use Rattle.xds_ledger.specs.Listed.{Listed}
use Rattle.xds_ledger.specs.Sharing.{base_names}
use Rattle.xds_ledger.proofs.SharedNames.{over_none}
use Rattle.xds_ledger.proofs.listed.Listed.set_names.Goals as goal

pub returns-clause-ok : goal.returns-clause-ok
returns-clause-ok c =
    (λ i. record {
      mark = c.self.inside.mark;
      names = over_none c.put_at.new.place c.put_at-2.new.place c.args.names (ap base_names c.put_at.ensures ∙ c.in_ok-base.ensures.ok) (c.put_at-2.ensures ∙ c.new.ensures) i;
      sent_mark = c.self.inside.sent_mark;
    }) ∙ ap (λ (l : Listed). record { mark = l.mark; names = c.args.names; sent_mark = l.sent_mark }) c.self.view_is
