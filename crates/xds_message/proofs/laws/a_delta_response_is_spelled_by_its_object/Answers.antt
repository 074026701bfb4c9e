use Rattle.xds_message.proofs.DeltaReadsBack.{SpellsDeltaResponse-delta_response_object}
use Rattle.xds_message.proofs.laws.a_delta_response_is_spelled_by_its_object.Goals as goal

pub returns : goal.returns
returns c = SpellsDeltaResponse-delta_response_object
