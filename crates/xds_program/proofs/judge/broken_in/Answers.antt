use Rattle.std.proofs.Common.{[], List, ℕ, append-nil, subst}
use Rattle.std.proofs.lemmas.Result.{IfOk-weaker}
use Rattle.xds_check.specs.Texts.{IsRefusedAt}
use Rattle.xds_program.proofs.judge.broken_in.Goals as goal

pub returns-in-Err-clause-unjudged : goal.returns-in-Err-clause-unjudged
returns-in-Err-clause-unjudged c =
    let bytes = c.args.bytes.now in
    let fault = c.in-Err.fault in
    c.why_not.ensures bytes (subst (λ (l : List ℕ). IsRefusedAt l fault.line fault.refusal) (append-nil bytes) (c.in-Err.ensures.refused [] [] c.new-checker.ensures))

pub broken_by-requires : goal.broken_by-requires
broken_by-requires c = (c.args.bytes.now, c.in_default.ensures.read [] c.new-checker.ensures)

pub returns-clause-judged : goal.returns-clause-judged
returns-clause-judged c = IfOk-weaker c.broken_by.result _ _ (λ broken all. all c.args.bytes.now (c.in_default.ensures.read [] c.new-checker.ensures)) c.broken_by.ensures.judged
