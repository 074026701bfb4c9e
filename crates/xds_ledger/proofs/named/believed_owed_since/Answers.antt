use Rattle.std.proofs.Common.{ℕ, List, Bool, sym, ap, ◌∙◌}
use Rattle.std.specs.List.{list_any}
use Rattle.std.specs.Option.{option_map}
use Rattle.std.specs.FinMap as finmap
use Rattle.xds_ledger.specs.Named.{is_owed_since, told_entries}
use Rattle.xds_ledger.proofs.SomethingOwed.{one_passes}
use Rattle.xds_ledger.proofs.NamedOwed.{none_believed}
use Rattle.xds_ledger.proofs.named.believed_owed_since.Goals as goal

pub returns-then-key_owed_since-clause-found : goal.returns-then-key_owed_since-clause-found
returns-then-key_owed_since-clause-found g c =
    let test : List ℕ → Bool = is_owed_since c.args.variant g.T.ResourceType.TYPE c.args.interest.now c.args.catalogue.now c.args.beliefs.now c.args.mark in
    λ _. one_passes test (finmap.entries c.parts.result.1.now) (ap (λ es. list_any (λ e. test e.0) es) (sym c.iter.ensures) ∙ sym c.key_owed_since.ensures ∙ c.if-key_owed_since.true)

pub returns-clause-found : goal.returns-clause-found
returns-clause-found g c =
    let test : List ℕ → Bool = is_owed_since c.args.variant g.T.ResourceType.TYPE c.args.interest.now c.args.catalogue.now c.args.beliefs.now c.args.mark in
    λ some. one_passes test (told_entries (option_map (λ m. m.now) c.parts.result.0)) (sym c.told_owed_since.ensures ∙ some)

pub returns-clause-none : goal.returns-clause-none
returns-clause-none g c =
    let test : List ℕ → Bool = is_owed_since c.args.variant g.T.ResourceType.TYPE c.args.interest.now c.args.catalogue.now c.args.beliefs.now c.args.mark in
    λ none. none_believed test (option_map (λ m. m.now) c.parts.result.0) c.parts.result.1.now c.args.beliefs.now c.parts.ensures
    (ap (λ es. list_any (λ e. test e.0) es) (sym c.iter.ensures) ∙ sym c.key_owed_since.ensures ∙ c.if-key_owed_since.false) (sym c.told_owed_since.ensures ∙ none)
