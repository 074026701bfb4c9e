use Rattle.std.proofs.Common.{map, string_bytes, sym, ◌∙◌}
use Rattle.xds_ledger.specs.Named.{is_owed_since}
use Rattle.xds_ledger.proofs.NamedOwed.{some_named, owed_if_since, none_by_name}
use Rattle.xds_ledger.proofs.named.is_owed_by_name.Goals as goal

pub returns-then-name_owed_since-clause-found : goal.returns-then-name_owed_since-clause-found
returns-then-name_owed_since-clause-found g c = λ _.
    owed_if_since c.args.variant g.T.ResourceType.TYPE c.args.interest.now c.args.catalogue.now c.args.beliefs.now c.args.mark
    (some_named (is_owed_since c.args.variant g.T.ResourceType.TYPE c.args.interest.now c.args.catalogue.now c.args.beliefs.now c.args.mark) (map string_bytes c.names-names.result)
    (sym c.name_owed_since.ensures ∙ c.if-name_owed_since.true))

pub returns-clause-none : goal.returns-clause-none
returns-clause-none g c = λ none.
    none_by_name c.args.variant g.T.ResourceType.TYPE c.args.interest.now c.args.catalogue.now c.args.beliefs.now c.args.mark (map string_bytes c.names-names.result) c.requires c.names-names.ensures.names
    (sym c.name_owed_since.ensures ∙ c.if-name_owed_since.false) (c.believed_owed_since.ensures.none none)
