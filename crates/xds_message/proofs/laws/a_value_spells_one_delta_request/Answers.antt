use Rattle.xds_message.proofs.OneDeltaMessage.{SpellsDeltaRequest-unique}
use Rattle.xds_message.proofs.laws.a_value_spells_one_delta_request.Goals as goal

pub returns : goal.returns
returns c = SpellsDeltaRequest-unique
