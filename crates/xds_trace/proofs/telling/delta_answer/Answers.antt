use Rattle.xds_message.specs.Responses.{delta_response_of}
use Rattle.xds_trace.proofs.Told.{delta_told}
use Rattle.xds_trace.proofs.telling.delta_answer.Goals as goal

pub returns-in-Ok : goal.returns-in-Ok
returns-in-Ok c = delta_told c.args.draft.now (delta_response_of c.in-Ok.message) c.of_delta.result c.in-Ok.ensures.ok c.in-Ok.ensures.texts c.of_delta.ensures
