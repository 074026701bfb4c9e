use Rattle.xds_message.proofs.OneMessage.{SpellsRequest-unique}
use Rattle.xds_message.proofs.laws.a_value_spells_one_request.Goals as goal

pub returns : goal.returns
returns c = SpellsRequest-unique
