use Rattle.std.proofs.Common.{ℕ, List, Bool, Bor, Option, sym, ap, ◌∙◌}
use Rattle.std.specs.Option.{option_map}
use Rattle.xds_catalogue.specs.Holdings.{Latest}
use Rattle.xds_ledger.specs.Repeats.{has_what_is_said}
use Rattle.xds_ledger.specs.Sharing.{base_names}
use Rattle.xds_ledger.proofs.SharedNames.{all_of, not_since, all_shared, all_since}
use Rattle.xds_ledger.proofs.repeats.has_what_is_said_where_listed.Goals as goal

pub returns-then-not-has_what_is_said_among : goal.returns-then-not-has_what_is_said_among
returns-then-not-has_what_is_said_among g c =
    let test : List ℕ → Bool = has_what_is_said c.args.refused.now c.args.variant g.T.ResourceType.TYPE c.args.interest.now c.args.catalogue.now.entries c.args.beliefs.now in
    not_since test (option_map (λ m. m.now) c.names.result.0) c.names.result.1.now c.args.listed.now.names c.names.ensures (sym c.has_what_is_said_among.ensures ∙ c.if-not-has_what_is_said_among.true)

pub returns-in-Some : goal.returns-in-Some
returns-in-Some g c =
    let test : List ℕ → Bool = has_what_is_said c.args.refused.now c.args.variant g.T.ResourceType.TYPE c.args.interest.now c.args.catalogue.now.entries c.args.beliefs.now in
    c.has_what_is_said_among-in-Some.ensures ∙ ap (λ (o : Option (Bor Latest)). all_of test (base_names (option_map (λ m. m.now) o))) (sym c.in-Some.is)
    ∙ all_shared test (option_map (λ m. m.now) c.names.result.0) c.names.result.1.now c.args.listed.now.names c.names.ensures (sym c.has_what_is_said_among.ensures ∙ c.if-not-has_what_is_said_among.false)

pub returns-in-None : goal.returns-in-None
returns-in-None g c =
    let test : List ℕ → Bool = has_what_is_said c.args.refused.now c.args.variant g.T.ResourceType.TYPE c.args.interest.now c.args.catalogue.now.entries c.args.beliefs.now in
    all_since test (option_map (λ m. m.now) c.names.result.0) c.names.result.1.now c.args.listed.now.names c.names.ensures (ap (λ (o : Option (Bor Latest)). option_map (λ m. m.now) o) c.in-None.is)
    (sym c.has_what_is_said_among.ensures ∙ c.if-not-has_what_is_said_among.false)
