use Rattle.xds_message.proofs.BatchLemmas.{by_type-in_order}
use Rattle.xds_message.proofs.write_laws.a_batch_is_its_writes.Goals as goal

pub returns : goal.returns
returns c = by_type-in_order
