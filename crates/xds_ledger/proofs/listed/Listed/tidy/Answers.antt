use Rattle.xds_ledger.proofs.Fitting.{tidied_fits, tidied_keeps_sending}
use Rattle.xds_ledger.proofs.listed.Listed.tidy.Goals as goal

pub returns-clause-fits : goal.returns-clause-fits
returns-clause-fits g c =
    tidied_fits c.args.variant g.T.ResourceType.TYPE c.args.interest.now c.args.catalogue.now c.args.beliefs.now c.args.self.now c.leave_owed.new.self c.leave_owed.result c.leave_owed.ensures.ok c.leave_owed.ensures.numbered
    c.leave_owed.ensures.err c.requires

pub returns-clause-sending : goal.returns-clause-sending
returns-clause-sending g c =
    tidied_keeps_sending c.args.variant g.T.ResourceType.TYPE c.args.interest.now c.args.catalogue.now c.args.beliefs.now c.args.self.now c.leave_owed.new.self c.leave_owed.result c.leave_owed.ensures.ok c.leave_owed.ensures.err
    c.requires.counted
