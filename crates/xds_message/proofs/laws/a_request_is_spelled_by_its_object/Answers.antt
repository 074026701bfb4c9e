use Rattle.xds_message.proofs.ReadsBack.{SpellsRequest-request_object}
use Rattle.xds_message.proofs.laws.a_request_is_spelled_by_its_object.Goals as goal

pub returns : goal.returns
returns c = SpellsRequest-request_object
