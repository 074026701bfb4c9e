use Rattle.xds_world.proofs.Journals.{journals_are_legal, journals_tell_all}
use Rattle.xds_world.proofs.laws.journals_are_legal.Goals as goal

pub returns-clause-legal : goal.returns-clause-legal
returns-clause-legal c = journals_are_legal

pub returns-clause-told : goal.returns-clause-told
returns-clause-told c = journals_tell_all
