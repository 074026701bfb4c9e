use Rattle.std.proofs.Common.{ap, ◌∙◌}
use Rattle.xds_ledger.specs.Listed.{Listed}
use Rattle.xds_ledger.specs.Sharing.{base_names}
use Rattle.xds_ledger.proofs.SharedNames.{over_none}
use Rattle.xds_ledger.proofs.listed.Listed.relist.Goals as goal

pub returns : goal.returns
returns c =
    λ i. record {
      mark = c.args.changes;
      names = over_none c.put_at.new.place c.put_at-2.new.place c.args.names (ap base_names c.put_at.ensures) (c.put_at-2.ensures ∙ c.new.ensures) i;
      sent_mark = ap (λ (l : Listed). l.sent_mark) c.self.view_is i;
    }
