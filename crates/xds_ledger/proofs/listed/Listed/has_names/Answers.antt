use Rattle.std.proofs.Common.{true, sym, ap, ◌∙◌}
use Rattle.xds_ledger.specs.Listed.{Listed}
use Rattle.xds_ledger.specs.Sharing.{base_names}
use Rattle.xds_ledger.proofs.SharedNames.{any_of, one_since, one_shared, none_since}
use Rattle.xds_ledger.proofs.listed.Listed.has_names.Goals as goal

pub returns-then-has_some : goal.returns-then-has_some
returns-then-has_some c =
    one_since (λ q. true) c.self.inside.base c.self.inside.added c.args.self.now.names (ap (λ (l : Listed). l.names) c.self.view_is) (sym c.has_some.ensures ∙ c.if-has_some.true)

pub returns-in-Some : goal.returns-in-Some
returns-in-Some c =
    c.has_some-in-Some.ensures ∙ ap (any_of (λ q. true)) c.as_map.ensures ∙ ap (λ b. any_of (λ q. true) (base_names b)) (sym c.in-Some.is)
    ∙ one_shared (λ q. true) c.self.inside.base c.self.inside.added c.args.self.now.names (ap (λ (l : Listed). l.names) c.self.view_is) (sym c.has_some.ensures ∙ c.if-has_some.false)

pub returns-in-None : goal.returns-in-None
returns-in-None c =
    none_since (λ q. true) c.self.inside.base c.self.inside.added c.args.self.now.names (ap (λ (l : Listed). l.names) c.self.view_is) c.in-None.is (sym c.has_some.ensures ∙ c.if-has_some.false)
