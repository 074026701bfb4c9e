use Rattle.std.proofs.Common.{sym, ap, ◌∙◌, subst}
use Rattle.std.specs.FinMap as finmap
use Rattle.xds_json.proofs.VersionLemmas.{Rises, pairs_of-clones}
use Rattle.xds_json.proofs.versions.Versions.try_copy.Goals as goal

pub invariant_of-result : goal.invariant_of-result
invariant_of-result c =
    subst Rises (sym (pairs_of-clones c.self.inside.entries.entries c.in_ok-clone.field-0.entries c.in_ok-clone.ensures.cases)) c.self.invariant

pub returns-clause-ok : goal.returns-clause-ok
returns-clause-ok c =
    ap finmap.from_sorted (pairs_of-clones c.self.inside.entries.entries c.in_ok-clone.field-0.entries c.in_ok-clone.ensures.cases) ∙ c.self.view_is
