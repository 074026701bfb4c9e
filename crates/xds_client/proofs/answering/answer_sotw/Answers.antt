use Rattle.xds_client.proofs.Making.{sotw_told, sotw_untold}
use Rattle.xds_client.proofs.answering.answer_sotw.Goals as goal

pub returns-clause-ok : goal.returns-clause-ok
returns-clause-ok c = sotw_told c.args.client.now c.receive.new.self c.args.text.now c.args.kind _ _ c.sotw_reply.result c.in_ok-response.ensures.ok c.in_ok-request.ensures.ok c.sotw_reply.ensures.ok

pub returns-clause-refused : goal.returns-clause-refused
returns-clause-refused c = sotw_untold c.args.client.now c.receive.new.self c.args.text.now _ _ c.sotw_reply.result c.in_ok-response.ensures.ok c.in_ok-request.ensures.ok c.sotw_reply.ensures.refused
