use Rattle.xds_message.proofs.StampedWriteLemmas.{SpellsWrite-unique}
use Rattle.xds_message.proofs.write_laws.a_value_spells_one_write.Goals as goal

pub returns : goal.returns
returns c = SpellsWrite-unique
