use Rattle.std.proofs.Common.{◌∙◌}
use Rattle.xds_ledger.proofs.SaysSomething.{says_what_is_due}
use Rattle.xds_ledger.proofs.ledger.Ledger.is_due_by.Goals as goal

pub returns : goal.returns
returns g c =
    c.has_some.ensures
    ∙ says_what_is_due g.V.Variant.NAME g.T.ResourceType.TYPE c.args._interest.now c.args._catalogue.now.entries c.args.self.now.account.beliefs c.args.offer.now c.args.self.now.account.accepted c.requires.delta c.requires.offer
