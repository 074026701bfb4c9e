use Rattle.std.proofs.Common.{ap, ◌∙◌, Ok}
use Rattle.xds_client.specs.Turning.{client_of, variant_of}
use Rattle.xds_client.proofs.Making.{given_answer}
use Rattle.xds_client.proofs.answering.StreamClient.answer_next.Goals as goal

pub returns-in_ok-answer-in-Some-clause-gives : goal.returns-in_ok-answer-in-Some-clause-gives
returns-in_ok-answer-in-Some-clause-gives c =
    given_answer (variant_of c.args.self.now) c.args.kind (client_of c.args.self.now) (client_of c.answer.new.self) c.args.decoder.now c.next.follows.lender-at-none _ c.in-Some.frame c.in_ok-answer-in-Some.field-0
    (c.in_ok-frame.was ∙ ap Ok c.in-Some.is) c.next.follows.holds-at-none c.in_ok-answer-in-Some.ensures.ok
