use Rattle.std.proofs.Common.{ap, ◌∙◌}
use Rattle.std.specs.FinMap as finmap
use Rattle.xds_json.proofs.VersionLemmas.{Rises-insert_entry, from_sorted-insert_entry}
use Rattle.xds_json.proofs.versions.Versions.insert.Goals as goal

pub invariant_of-self-2 : goal.invariant_of-self-2
invariant_of-self-2 c =
    Rises-insert_entry c.self.inside.entries.entries c.insert.new.self.entries c.in_ok-name.name c.in_ok-version.version c.in_ok-insert.ensures.entries c.self.invariant

pub returns-clause-ok : goal.returns-clause-ok
returns-clause-ok c =
    from_sorted-insert_entry c.self.inside.entries.entries c.insert.new.self.entries c.in_ok-name.name c.in_ok-version.version c.args.name.now c.args.version.now c.in_ok-insert.ensures.entries c.in_ok-name.ensures.ok c.in_ok-version.ensures.ok c.self.invariant
    ∙ ap (λ m. finmap.insert m c.args.name.now c.args.version.now) c.self.view_is
