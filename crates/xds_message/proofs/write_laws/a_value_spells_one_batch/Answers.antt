use Rattle.xds_message.proofs.BatchLemmas.{SpellsBatch-unique}
use Rattle.xds_message.proofs.write_laws.a_value_spells_one_batch.Goals as goal

pub returns : goal.returns
returns c = SpellsBatch-unique
