use Rattle.xds_message.specs.Responses.{response_of}
use Rattle.xds_trace.proofs.Told.{sotw_told}
use Rattle.xds_trace.proofs.telling.sotw_answer.Goals as goal

pub returns-in-Ok : goal.returns-in-Ok
returns-in-Ok c = sotw_told c.args.draft.now (response_of c.in-Ok.message) c.of_sotw.result c.in-Ok.ensures.ok c.in-Ok.ensures.texts c.of_sotw.ensures
