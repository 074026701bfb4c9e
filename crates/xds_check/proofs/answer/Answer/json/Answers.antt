use Rattle.std.proofs.Common.{◌≡◌, true, false, sym, ◌∙◌, subst}
use Rattle.xds_message.specs.Responses.{response_of, delta_response_of}
use Rattle.xds_ledger.specs.Variants.{is_delta}
use Rattle.xds_check.specs.Answers.{Answer, IsAnswer}
use Rattle.xds_check.proofs.AnswerTexts.{sotw_text, delta_text, sotw_json, delta_json}
use Rattle.xds_check.proofs.answer.Answer.json.Goals as goal

pub returns-then-is_delta-clause-text : goal.returns-then-is_delta-clause-text
returns-then-is_delta-clause-text c =
    let delta = subst (λ (a : Answer). is_delta a.variant ≡ true) c.self.view_is (sym c.is_delta.ensures ∙ c.if-is_delta.true) in
    delta_text c.args.self.now (delta_response_of c.in_ok-message.message) c.write.result c.in_ok-message.ensures.ok delta (subst IsAnswer c.self.view_is c.self.invariant) c.write.ensures.whole

pub returns-then-is_delta-clause-spelled : goal.returns-then-is_delta-clause-spelled
returns-then-is_delta-clause-spelled c =
    let delta = subst (λ (a : Answer). is_delta a.variant ≡ true) c.self.view_is (sym c.is_delta.ensures ∙ c.if-is_delta.true) in
    delta_json c.args.self.now (delta_response_of c.in_ok-message.message) c.write.result c.in_ok-message.ensures.ok delta (subst IsAnswer c.self.view_is c.self.invariant) c.write.ensures.shallow c.write.ensures.spelled

pub returns-clause-text : goal.returns-clause-text
returns-clause-text c =
    let sotw = subst (λ (a : Answer). is_delta a.variant ≡ false) c.self.view_is (sym c.is_delta.ensures ∙ c.if-is_delta.false) in
    sotw_text c.args.self.now (response_of c.in_ok-message-2.message) c.write-2.result c.in_ok-message-2.ensures.ok sotw (subst IsAnswer c.self.view_is c.self.invariant) c.write-2.ensures.whole

pub returns-clause-spelled : goal.returns-clause-spelled
returns-clause-spelled c =
    let sotw = subst (λ (a : Answer). is_delta a.variant ≡ false) c.self.view_is (sym c.is_delta.ensures ∙ c.if-is_delta.false) in
    sotw_json c.args.self.now (response_of c.in_ok-message-2.message) c.write-2.result c.in_ok-message-2.ensures.ok sotw (subst IsAnswer c.self.view_is c.self.invariant) c.write-2.ensures.shallow c.write-2.ensures.spelled
