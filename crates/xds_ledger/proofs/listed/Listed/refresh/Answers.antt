use Rattle.std.proofs.Common.{◌≡◌, Some, ap, ◌∙◌}
use Rattle.std.specs.FinMap as finmap
use Rattle.xds_resource.specs.Names.{put_all}
use Rattle.xds_ledger.specs.Listed.{Listed, changed_since, refreshed}
use Rattle.xds_ledger.specs.Sharing.{over}
use Rattle.xds_ledger.proofs.Fitting.{refreshed_suffices}
use Rattle.xds_ledger.proofs.listed.Listed.refresh.Goals as goal

pub returns-clause-fits : goal.returns-clause-fits
returns-clause-fits g c =
    let h = c.args.catalogue.now in
    let new : Listed = record { mark = c.changes-self-inside.result; names = over c.self-2.inside.base c.self-2.inside.added; sent_mark = c.self-2.inside.sent_mark } in
    let is : new ≡ refreshed h c.args.self.now =
    ap (λ (l : Listed). record { mark = c.changes-self-inside.result; names = l.names; sent_mark = l.sent_mark }) (c.self-2.view_is ∙ c.in_ok-set_names.ensures.ok)
    ∙ (λ i. record {
      mark = c.changes-self-inside.ensures i;
      names = (c.in_ok-names.ensures.ok
          ∙ ap (λ m. put_all (λ name number. Some number) m (finmap.entries (over c.self.inside.base c.self.inside.added))) c.in_ok-changed.ensures.ok
          ∙ ap (λ (l : Listed). put_all (λ name number. Some number) (changed_since h l.mark) (finmap.entries l.names)) c.self.view_is) i;
      sent_mark = c.args.self.now.sent_mark;
    }) in
    refreshed_suffices h c.args.self.now new c.in_ok-changed.ensures.numbered is
