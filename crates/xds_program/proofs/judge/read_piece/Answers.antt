use Rattle.std.proofs.Common.{◌≤◌, ℕ, length, take}
use Rattle.std.specs.Io.KnownBytes.{Consumes}
use Rattle.xds_program.proofs.JudgedInput.{some_is, unread_in}
use Rattle.xds_program.proofs.judge.read_piece.Goals as goal

pub returns-in-Err-read-clause-refused : goal.returns-in-Err-read-clause-refused
returns-in-Err-read-clause-refused g c = λ bytes read.
    let before = g.I.Read.remaining c.args.input.now.inner in
    let after = g.I.Read.remaining c.read_some.new.input.inner in
    let buffer = c.read_some.new.buffer in
    let some = some_is (λ (n : ℕ). (n ≤ length buffer) × Consumes before after (take n buffer)) c.in-Ok-Some.field-0 c.in-Ok-Some.count c.in-Ok-Some.field-0-is c.in-Ok-Some.ensures.some in
    unread_in before after bytes (take c.in-Ok-Some.count buffer) c.why_not.result some.1 (λ following. c.why_not.ensures _ (c.in-Err-read.ensures.refused bytes following read))
