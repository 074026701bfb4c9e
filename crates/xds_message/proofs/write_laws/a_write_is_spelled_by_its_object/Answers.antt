use Rattle.xds_message.proofs.StampedWriteLemmas.{SpellsWrite-write_object}
use Rattle.xds_message.proofs.write_laws.a_write_is_spelled_by_its_object.Goals as goal

pub returns : goal.returns
returns c = SpellsWrite-write_object
