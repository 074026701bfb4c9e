use Rattle.xds_client.proofs.Making.{delta_told, delta_untold}
use Rattle.xds_client.proofs.answering.answer_delta.Goals as goal

pub returns-clause-ok : goal.returns-clause-ok
returns-clause-ok c = delta_told c.args.client.now c.receive.new.self c.args.text.now c.args.kind _ _ c.delta_reply.result c.in_ok-response.ensures.ok c.in_ok-request.ensures.ok c.delta_reply.ensures.ok

pub returns-clause-refused : goal.returns-clause-refused
returns-clause-refused c = delta_untold c.args.client.now c.receive.new.self c.args.text.now _ _ c.delta_reply.result c.in_ok-response.ensures.ok c.in_ok-request.ensures.ok c.delta_reply.ensures.refused
