use Rattle.std.proofs.Common.{Some, sym, ap, ◌∙◌}
use Rattle.std.specs.FinMap as finmap
use Rattle.xds_resource.specs.Names.{put_all}
use Rattle.xds_ledger.specs.Sharing.{base_names}
use Rattle.xds_ledger.proofs.SharedNames.{none_put}
use Rattle.xds_ledger.proofs.listed.with_shared.Goals as goal

pub returns-in-None-clause-ok : goal.returns-in-None-clause-ok
returns-in-None-clause-ok c =
    sym (ap (λ b. put_all (λ name number. Some number) c.args.names (finmap.entries (base_names b))) c.in-None.is ∙ none_put (λ name number. Some number) c.args.names)
