use Rattle.std.proofs.Common.{ℕ, List, Bor, Option, Some, None, sym, ap, ◌∙◌}
use Rattle.std.specs.Prelude.{if◌then◌else◌}
use Rattle.std.specs.Option.{option_map}
use Rattle.std.specs.FinMap as finmap
use Rattle.xds_resource.specs.Names.{put_all}
use Rattle.xds_catalogue.specs.Holdings.{Latest}
use Rattle.xds_ledger.specs.Owed.{is_owed}
use Rattle.xds_ledger.specs.Sharing.{base_names}
use Rattle.xds_ledger.proofs.SharedNames.{none_put}
use Rattle.xds_ledger.proofs.listed.with_owed_shared.Goals as goal

pub returns-in-None-clause-ok : goal.returns-in-None-clause-ok
returns-in-None-clause-ok g c =
    let f : List ℕ → ℕ → Option ℕ = λ name number. if is_owed c.args.variant g.T.ResourceType.TYPE c.args.interest.now c.args.catalogue.now.entries c.args.beliefs.now name then Some number else None in
    sym (ap (λ (o : Option (Bor Latest)). put_all f c.args.start (finmap.entries (base_names (option_map (λ m. m.now) o)))) c.in-None.is ∙ none_put f c.args.start)
