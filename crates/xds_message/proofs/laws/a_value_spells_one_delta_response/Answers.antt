use Rattle.xds_message.proofs.OneDeltaMessage.{SpellsDeltaResponse-unique}
use Rattle.xds_message.proofs.laws.a_value_spells_one_delta_response.Goals as goal

pub returns : goal.returns
returns c = SpellsDeltaResponse-unique
