use Rattle.std.proofs.Common.{ap, ◌∙◌}
use Rattle.std.specs.Prelude.{is_some}
use Rattle.std.specs.FinMap as finmap
use Rattle.xds_catalogue.specs.Holdings.{Latest}
use Rattle.xds_sessions.proofs.Sharing.{owed_is_offered}
use Rattle.xds_sessions.proofs.session.Session.list_told.Goals as goal

pub relist-requires-clause-owed : goal.relist-requires-clause-owed
relist-requires-clause-owed g c =
    λ q owed. ap (λ (n : Latest). is_some (finmap.get n q)) c.in-Some.ensures
    ∙ owed_is_offered g.V.Variant.NAME g.T.ResourceType.TYPE c.args.self.now.session.asked.interest c.args.catalogue.now.entries c.args.self.now.session.account.beliefs c.args.told.now.offer c.args.told.now.names c.requires.delta
    c.requires.offer c.requires.names q owed
