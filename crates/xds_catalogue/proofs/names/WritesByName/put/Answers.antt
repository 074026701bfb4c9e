use Rattle.std.proofs.Common.{ap, ◌∙◌}
use Rattle.xds_catalogue.specs.Tables.{with_name}
use Rattle.xds_catalogue.proofs.MapViews.{Named-insert}
use Rattle.xds_catalogue.proofs.names.WritesByName.put.Goals as goal

pub returns-clause-ok : goal.returns-clause-ok
returns-clause-ok g c =
    Named-insert c.self.inside.by_name c.insert.new.self _ c.args.entry c.in_ok-insert.ensures.updates
    ∙ (λ i. with_name (c.self.view_is i) ((c.in_ok-name.ensures.ok ∙ c.name.ensures.name ∙ ap (λ w. w.name) c.write.ensures) i) c.args.entry)
