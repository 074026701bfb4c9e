use Rattle.xds_trace.proofs.TextLemmas.{texts_join}
use Rattle.xds_trace.proofs.histories_laws.texts_join.Goals as goal

pub returns : goal.returns
returns c = texts_join
