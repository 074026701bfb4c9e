use Rattle.xds_message.proofs.DeltaReadsBack.{SpellsDeltaRequest-delta_request_object}
use Rattle.xds_message.proofs.laws.a_delta_request_is_spelled_by_its_object.Goals as goal

pub returns : goal.returns
returns c = SpellsDeltaRequest-delta_request_object
