use Rattle.std.proofs.Common.{◌≡◌, ◌<◌, ◌≤◌, length, get_or, ap, ◌∙◌, arith}
use Rattle.std.specs.String.{string_bytes}
use Rattle.xds_check.proofs.Traces.{written_more, said_more, written_all}
use Rattle.xds_check.proofs.trace.Trace.write.Goals as goal

pub loop-line-preserved : goal.loop-line-preserved
loop-line-preserved c =
    let trace = c.args.self.now in
    let i = c.loop-line.line-index in
    let x = c.line-item.result in
    let lines = c.deref-line-items.ensures.value ∙ c.self.view_is in
    let is : x ≡ get_or trace i x = c.line-item.is ∙ ap (λ xs. get_or xs i x) lines in
    let long = ap length lines in
    let below : i < length trace = omega arith in
    let before = c.loop-line.invariant in
    (written_more trace i x (string_bytes c.loop-line.out) (string_bytes c.join_line.new.out) below is before.0 c.in_ok-join_line.ensures.ok, said_more trace i x below is before.1 c.in_ok-join_line.ensures.says)

pub returns-clause-reads_back : goal.returns-clause-reads_back
returns-clause-reads_back c =
    let trace = c.args.self.now in
    let long = ap length (c.deref-line-items.ensures.value ∙ c.self.view_is) in
    let end : length trace ≤ c.loop-line.line-index = omega arith in
    written_all trace c.loop-line.line-index (string_bytes c.loop-line.out) end c.loop-line.invariant.0 c.loop-line.invariant.1
