use Rattle.std.proofs.Common.{ap, sym, ◌∙◌}
use Rattle.std.specs.Option.{option_map}
use Rattle.std.specs.FinMap as finmap
use Rattle.xds_catalogue.proofs.MapViews.{read_map, get-by_text}
use Rattle.xds_catalogue.proofs.names.WritesByName.get.Goals as goal

pub returns-clause-write : goal.returns-clause-write
returns-clause-write g c =
    read_map (λ e. e.write) c.get.result ∙ ap (option_map (λ e. e.write)) c.get.ensures.value ∙ sym (get-by_text (λ e. e.write) c.self.inside.by_name c.args.name.now)
    ∙ ap (λ n. finmap.get n.entries c.args.name.now) c.self.view_is

pub returns-clause-change : goal.returns-clause-change
returns-clause-change g c =
    read_map (λ e. e.change) c.get.result ∙ ap (option_map (λ e. e.change)) c.get.ensures.value ∙ sym (get-by_text (λ e. e.change) c.self.inside.by_name c.args.name.now)
    ∙ ap (λ n. finmap.get n.latest c.args.name.now) c.self.view_is
