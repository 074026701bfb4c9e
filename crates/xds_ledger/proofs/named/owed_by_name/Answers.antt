use Rattle.std.proofs.Common.{ℕ, List, Option, map, string_bytes, ap, ◌∙◌}
use Rattle.std.specs.Option.{option_map}
use Rattle.xds_resource.specs.Names.{put_all}
use Rattle.xds_ledger.specs.Named.{owed_number}
use Rattle.xds_ledger.proofs.NamedOwed.{found_by_name}
use Rattle.xds_ledger.proofs.named.owed_by_name.Goals as goal

pub returns-clause-ok : goal.returns-clause-ok
returns-clause-ok g c =
    let f : List ℕ → Option ℕ = owed_number c.args.variant g.T.ResourceType.TYPE c.args.interest.now c.args.catalogue.now c.args.beliefs.now c.args.mark in
    found_by_name c.args.variant g.T.ResourceType.TYPE c.args.interest.now c.args.catalogue.now c.args.beliefs.now c.args.mark (option_map (λ m. m.now) c.parts.result.0) c.parts.result.1.now
    (map string_bytes c.names-names.result) c.in_ok-explicit.explicit c.in_ok-of_told.of_told c.in_ok-all.all c.requires c.parts.ensures c.names-names.ensures.names c.in_ok-explicit.ensures.ok c.in_ok-of_told.ensures.ok
    (c.in_ok-all.ensures.ok ∙ ap (put_all (λ name value. f name) c.in_ok-of_told.of_told) c.iter.ensures)
