use Rattle.std.proofs.Common.{◌≡◌, ap, ◌∙◌}
use Rattle.xds_frames.specs.Decoding.{framed}
use Rattle.xds_client.specs.Subscribing.{response_kind}
use Rattle.xds_client.specs.Turning.{variant_of}
use Rattle.xds_client.proofs.Making.{sotw_answered, sotw_unanswered, delta_answered, delta_unanswered}
use Rattle.xds_client.proofs.answering.StreamClient.answer.Goals as goal

pub returns-in-Sotw-clause-ok : goal.returns-in-Sotw-clause-ok
returns-in-Sotw-clause-ok c =
    let kind : c.args.frame.kind ≡ response_kind (variant_of c.args.self.now) = c.is_response.ensures.is c.if-not-is_response.false ∙ ap response_kind c.variant.ensures in
    sotw_answered c.args.kind c.args.self.now c.in-Sotw.client c.answer_sotw.new.client (framed c.args.frame) c.answer_sotw.result c.in-Sotw.is kind c.answer_sotw.ensures.ok

pub returns-in-Sotw-clause-refused : goal.returns-in-Sotw-clause-refused
returns-in-Sotw-clause-refused c =
    let kind : c.args.frame.kind ≡ response_kind (variant_of c.args.self.now) = c.is_response.ensures.is c.if-not-is_response.false ∙ ap response_kind c.variant.ensures in
    sotw_unanswered c.args.kind c.args.self.now c.in-Sotw.client c.answer_sotw.new.client (framed c.args.frame) c.answer_sotw.result c.in-Sotw.is kind c.answer_sotw.ensures.refused

pub returns-in-Delta-clause-ok : goal.returns-in-Delta-clause-ok
returns-in-Delta-clause-ok c =
    let kind : c.args.frame.kind ≡ response_kind (variant_of c.args.self.now) = c.is_response.ensures.is c.if-not-is_response.false ∙ ap response_kind c.variant.ensures in
    delta_answered c.args.kind c.args.self.now c.in-Delta.client c.answer_delta.new.client (framed c.args.frame) c.answer_delta.result c.in-Delta.is kind c.answer_delta.ensures.ok

pub returns-in-Delta-clause-refused : goal.returns-in-Delta-clause-refused
returns-in-Delta-clause-refused c =
    let kind : c.args.frame.kind ≡ response_kind (variant_of c.args.self.now) = c.is_response.ensures.is c.if-not-is_response.false ∙ ap response_kind c.variant.ensures in
    delta_unanswered c.args.kind c.args.self.now c.in-Delta.client c.answer_delta.new.client (framed c.args.frame) c.answer_delta.result c.in-Delta.is kind c.answer_delta.ensures.refused
