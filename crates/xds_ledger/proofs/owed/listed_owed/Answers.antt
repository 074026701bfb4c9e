use Rattle.std.proofs.Common.{ℕ, List, Bool, Bor, Option, sym, ap, ◌∙◌}
use Rattle.std.specs.Option.{option_map}
use Rattle.xds_catalogue.specs.Holdings.{Latest}
use Rattle.xds_ledger.specs.Owed.{is_owed}
use Rattle.xds_ledger.specs.Sharing.{base_names}
use Rattle.xds_ledger.proofs.SharedNames.{any_of, one_since, one_shared, none_since}
use Rattle.xds_ledger.proofs.owed.listed_owed.Goals as goal

pub returns-then-owed_among : goal.returns-then-owed_among
returns-then-owed_among g c =
    let test : List ℕ → Bool = is_owed c.args.variant g.T.ResourceType.TYPE c.args.interest.now c.args.catalogue.now.entries c.args.beliefs.now in
    one_since test (option_map (λ m. m.now) c.names.result.0) c.names.result.1.now c.args.listed.now.names c.names.ensures (sym c.owed_among.ensures ∙ c.if-owed_among.true)

pub returns-in-Some : goal.returns-in-Some
returns-in-Some g c =
    let test : List ℕ → Bool = is_owed c.args.variant g.T.ResourceType.TYPE c.args.interest.now c.args.catalogue.now.entries c.args.beliefs.now in
    c.owed_among-in-Some.ensures ∙ ap (λ (o : Option (Bor Latest)). any_of test (base_names (option_map (λ m. m.now) o))) (sym c.in-Some.is)
    ∙ one_shared test (option_map (λ m. m.now) c.names.result.0) c.names.result.1.now c.args.listed.now.names c.names.ensures (sym c.owed_among.ensures ∙ c.if-owed_among.false)

pub returns-in-None : goal.returns-in-None
returns-in-None g c =
    let test : List ℕ → Bool = is_owed c.args.variant g.T.ResourceType.TYPE c.args.interest.now c.args.catalogue.now.entries c.args.beliefs.now in
    none_since test (option_map (λ m. m.now) c.names.result.0) c.names.result.1.now c.args.listed.now.names c.names.ensures (ap (λ (o : Option (Bor Latest)). option_map (λ m. m.now) o) c.in-None.is)
    (sym c.owed_among.ensures ∙ c.if-owed_among.false)
