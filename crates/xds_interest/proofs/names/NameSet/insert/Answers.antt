use Rattle.std.proofs.Common.{ap, ◌∙◌}
use Rattle.std.specs.FinSet as set
use Rattle.std.specs.String.{string_bytes}
use Rattle.xds_interest.proofs.NameSets.{seen-inserted}
use Rattle.xds_interest.proofs.names.NameSet.insert.Goals as goal

pub returns-clause-ok : goal.returns-clause-ok
returns-clause-ok c =
    seen-inserted c.self.inside.names c.insert.new.self c.in_ok-copy.copy (string_bytes c.args.name.now) c.in_ok-copy.ensures.cases c.in_ok-insert.ensures.updates
    ∙ ap (λ s. set.insert s (string_bytes c.args.name.now)) c.self.view_is
