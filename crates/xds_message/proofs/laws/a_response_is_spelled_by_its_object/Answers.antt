use Rattle.xds_message.proofs.ReadsBack.{SpellsResponse-response_object}
use Rattle.xds_message.proofs.laws.a_response_is_spelled_by_its_object.Goals as goal

pub returns : goal.returns
returns c = SpellsResponse-response_object
