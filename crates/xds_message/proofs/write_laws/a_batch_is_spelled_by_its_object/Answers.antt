use Rattle.xds_message.proofs.BatchLemmas.{SpellsBatch-batch_object}
use Rattle.xds_message.proofs.write_laws.a_batch_is_spelled_by_its_object.Goals as goal

pub returns : goal.returns
returns c = SpellsBatch-batch_object
