use Rattle.std.proofs.Common.{◌≡◌, sym, subst, string_bytes, IfOk, OnOk}
use Rattle.xds_check.specs.declared.line.Line.{Line}
use Rattle.xds_check.specs.declared.line.Line.TheVariants as lines
use Rattle.xds_check.specs.Texts.{HasStream, SaysBehind, behind_text}
use Rattle.xds_check.proofs.LineTexts.{request_says, response_says, idle_says}
use Rattle.xds_check.proofs.line.Line.behind.Goals as goal

pub returns-in-Request-clause-says : goal.returns-in-Request-clause-says
returns-in-Request-clause-says c =
    let k = c.in-Request.is in
    let e : c.args.self.now ≡ lines.Request c.in-Request.stream c.in-Request.asking = cc in
    subst (λ (l : Line). HasStream l → OnOk c.request_behind.result (SaysBehind l (behind_text l))) (sym e) (request_says c.in-Request.stream c.in-Request.asking c.request_behind.result c.request_behind.ensures.spelled)

pub returns-in-Response-clause-text : goal.returns-in-Response-clause-text
returns-in-Response-clause-text c =
    let k = c.in-Response.is in
    let e : c.args.self.now ≡ lines.Response c.in-Response.stream c.in-Response.answer = cc in
    subst (λ (l : Line). IfOk c.response_behind.result (λ s. string_bytes s ≡ behind_text l)) (sym e) c.response_behind.ensures.text

pub returns-in-Response-clause-says : goal.returns-in-Response-clause-says
returns-in-Response-clause-says c =
    let k = c.in-Response.is in
    let e : c.args.self.now ≡ lines.Response c.in-Response.stream c.in-Response.answer = cc in
    subst (λ (l : Line). HasStream l → OnOk c.response_behind.result (SaysBehind l (behind_text l))) (sym e) (response_says c.in-Response.stream c.in-Response.answer c.response_behind.result c.response_behind.ensures.spelled)

pub returns-in-Idle-clause-says : goal.returns-in-Idle-clause-says
returns-in-Idle-clause-says c =
    let k = c.in-Idle.is in
    let e : c.args.self.now ≡ lines.Idle c.in-Idle.stream c.in-Idle.kind = cc in
    subst (λ (l : Line). HasStream l → OnOk c.stream_and.result (SaysBehind l (behind_text l))) (sym e) (idle_says c.in-Idle.stream c.in-Idle.kind c.stream_and.result)
