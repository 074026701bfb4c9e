use Rattle.std.proofs.Common.{◌≡◌, ◌++◌, ℕ, List, [], append-nil, subst, Option, Result, Ok, Err, IfOk, IfSome, IfNone}
use Rattle.xds_check.specs.declared.checking.Broken.{Broken}
use Rattle.xds_check.specs.declared.piecewise.PiecewiseChecker.{PiecewiseChecker}
use Rattle.xds_check.specs.Checkers.{HasRead}
use Rattle.xds_check.specs.Texts.{IsRefusedAt}
use Rattle.xds_program.specs.declared.judge.SoFar.{SoFar}
use Rattle.xds_program.specs.declared.judge.Unjudged.{Unjudged}
use Rattle.xds_program.specs.declared.judge.Unjudged.TheVariants.{BadTrace}
use Rattle.xds_program.specs.Judged.{IsJudged, IsUnjudged}
use Rattle.xds_program.specs.SoFar.{IsJudgedSoFar, IsLastLine}
use Rattle.xds_program.proofs.CutShort.{cut_judged}
use Rattle.xds_program.proofs.judge.judge_last.Goals as goal

-- what is known where the last line is refused
refused_judged : (r : Result SoFar Unjudged) (before : Option Broken) (why : Unjudged) (last : List ℕ) (c : PiecewiseChecker) → IsLastLine last
    → ((front : List ℕ) → HasRead front c → IsJudged front before) → ((front : List ℕ) → HasRead front c → IsUnjudged (front ++ last) why)
    → IfOk r (λ s. (s.broken ≡ before) × IfSome s.cut (λ line. why ≡ BadTrace line)) → IfOk r (λ s. IfNone s.cut ⊥)
    → IfOk r (λ s. (front : List ℕ) → HasRead front c → IsJudgedSoFar (front ++ last) s.broken s.cut)
refused_judged (Ok s) before why last c is_last judged bad cut some =
    λ front read. cut_judged front last before s.broken s.cut why is_last (judged front read) (bad front read) cut.0 some cut.1
refused_judged (Err e) before why last c is_last judged bad cut some = tt

pub returns-in-Err-clause-judged : goal.returns-in-Err-clause-judged
returns-in-Err-clause-judged c =
    let last = c.args.last.now in
    let fault = c.in-Err.fault in
    let bad = λ (front : List ℕ) (read : HasRead front c.args.checker.now).
    c.why_not.ensures (front ++ last) (subst (λ (l : List ℕ). IsRefusedAt l fault.line fault.refusal) (append-nil (front ++ last)) (c.in-Err.ensures.refused front [] read)) in
    refused_judged _ c.args.before _ last c.args.checker.now c.requires.last c.requires.before bad c.cut_at.ensures.cut c.cut_at.ensures.some

pub broken_by-requires : goal.broken_by-requires
broken_by-requires c = (c.requires.read.0 ++ c.args.last.now, c.in_default.ensures.read c.requires.read.0 c.requires.read.1)

pub returns-in-Ok-clause-judged : goal.returns-in-Ok-clause-judged
returns-in-Ok-clause-judged c = λ front read. c.in-Ok.ensures.judged (front ++ c.args.last.now) (c.in_default.ensures.read front read)
