use Rattle.std.proofs.Common.{ap, sym, ◌∙◌, Some, refl, true≢false}
use Rattle.serde_json.specs.Data.{object}
use Rattle.serde_json.proofs.Views.{view-Object}
use Rattle.xds_json.proofs.VersionLemmas.{versions_data-none, versions_data-some}
use Rattle.xds_json.proofs.versions.Versions.to_value.Goals as goal

pub returns-then-is_empty-clause-ok : goal.returns-then-is_empty-clause-ok
returns-then-is_empty-clause-ok c = sym (versions_data-none c.self.inside.entries.entries c.args.self.now c.self.view_is c.self.invariant (c.if-is_empty.ensures.0 refl))

pub returns-clause-ok : goal.returns-clause-ok
returns-clause-ok c =
    ap Some (view-Object c.in_ok-members_of.field-0 ∙ ap object c.in_ok-members_of.ensures.ok)
    ∙ sym (versions_data-some c.self.inside.entries.entries c.args.self.now c.self.view_is c.self.invariant (λ none. true≢false (sym (c.is_empty.ensures.1 none) ∙ c.if-is_empty.false)))
