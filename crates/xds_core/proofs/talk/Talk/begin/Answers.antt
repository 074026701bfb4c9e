use Rattle.xds_core.proofs.StreamsFitting.{begun_stays}
use Rattle.xds_core.proofs.talk.Talk.begin.Goals as goal

pub returns-in-Ok-clause-fits : goal.returns-in-Ok-clause-fits
returns-in-Ok-clause-fits g c = begun_stays g.V.Variant.NAME c.in_ok-cluster.cluster c.in_ok-talk.talk c.request.new.self c.in_ok-talk.ensures.ok c.in-Ok.ensures.fits
