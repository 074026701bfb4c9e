use Rattle.std.proofs.Common.{◌≡◌, ◌++◌, ℕ, List, [], append-nil, subst, sym, Result, Ok, Err, IfOk, IfErr}
use Rattle.xds_check.specs.declared.piecewise.PiecewiseChecker.{PiecewiseChecker}
use Rattle.xds_check.specs.Checkers.{HasRead}
use Rattle.xds_program.specs.declared.judge.SoFar.{SoFar}
use Rattle.xds_program.specs.declared.judge.Unjudged.{Unjudged}
use Rattle.xds_program.specs.declared.judge.Unjudged.TheVariants.{OutOfMemory}
use Rattle.xds_program.specs.Judged.{IsUnjudged}
use Rattle.xds_program.specs.SoFar.{IsJudgedSoFar, IsLeftUnjudged}
use Rattle.xds_program.proofs.CutShort.{front_judged, front_refused}
use Rattle.xds_program.proofs.judge.judge_so_far.Goals as goal

-- what is known behind the lines that were read is known of all bytes
of_all : (r : Result SoFar Unjudged) (bytes front last : List ℕ) (c : PiecewiseChecker) → bytes ≡ front ++ last → HasRead front c
    → IfOk r (λ s. (f : List ℕ) → HasRead f c → IsJudgedSoFar (f ++ last) s.broken s.cut) → IfOk r (λ s. IsJudgedSoFar bytes s.broken s.cut)
of_all (Ok s) bytes front last c is read judged = subst (λ (l : List ℕ). IsJudgedSoFar l s.broken s.cut) (sym is) (judged front read)
of_all (Err e) bytes front last c is read judged = tt

-- no memory for the last line leaves all unjudged
no_room : (r : Result SoFar Unjudged) (bytes : List ℕ) → IfErr r (λ e. e ≡ OutOfMemory) → IfErr r (λ e. IsLeftUnjudged bytes e)
no_room (Ok s) bytes is = tt
no_room (Err e) bytes is = subst (IsLeftUnjudged bytes) (sym is) tt

pub returns-in-Err-clause-unjudged : goal.returns-in-Err-clause-unjudged
returns-in-Err-clause-unjudged c =
    let front = c.split_last.result.0.now in
    let last = c.split_last.result.1.now in
    let why = c.why_not.result in
    let refused = λ (following : List ℕ). c.why_not.ensures (front ++ following) (c.in-Err.ensures.refused [] following c.new-checker.ensures) in
    front_refused c.bytes_are_one_trace.ensures.no_bad_line c.args.bytes.now front last _ why c.new-checker.ensures c.split_last.ensures.whole c.split_last.ensures.front
    c.split_last.ensures.some (refused last) (subst (λ (l : List ℕ). IsUnjudged l why) (append-nil front) (refused []))

pub broken_by-requires : goal.broken_by-requires
broken_by-requires c = (c.split_last.result.0.now, c.in_default.ensures.read [] c.new-checker.ensures)

pub judge_last-requires-clause-read : goal.judge_last-requires-clause-read
judge_last-requires-clause-read c = (c.split_last.result.0.now, c.in_default.ensures.read [] c.new-checker.ensures)

pub returns-in-Ok-clause-judged : goal.returns-in-Ok-clause-judged
returns-in-Ok-clause-judged c =
    of_all _ _ c.split_last.result.0.now c.split_last.result.1.now _ c.split_last.ensures.whole (c.in_default.ensures.read [] c.new-checker.ensures) c.judge_last.ensures.judged

pub returns-clause-unjudged : goal.returns-clause-unjudged
returns-clause-unjudged c =
    let front = c.split_last.result.0.now in
    let read = c.in_default.ensures.read [] c.new-checker.ensures in
    front_judged c.bytes_are_one_trace.ensures.no_bad_line c.args.bytes.now front _ c.in-Err-broken_by.why read c.split_last.ensures.front (c.in-Err-broken_by.ensures.unjudged front read)

pub returns-in-Ok-clause-unjudged : goal.returns-in-Ok-clause-unjudged
returns-in-Ok-clause-unjudged c = no_room _ _ c.judge_last.ensures.unjudged
