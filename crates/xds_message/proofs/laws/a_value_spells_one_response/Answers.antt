use Rattle.xds_message.proofs.OneMessage.{SpellsResponse-unique}
use Rattle.xds_message.proofs.laws.a_value_spells_one_response.Goals as goal

pub returns : goal.returns
returns c = SpellsResponse-unique
