use Rattle.std.proofs.Common.{arith}
use Rattle.xds_changes.proofs.Handings.{read_none}
use Rattle.xds_changes.proofs.KeptLines.{input_begun, input_done, input_more}
use Rattle.xds_changes.proofs.keeping.keep_lines.Goals as goal

pub loop-init : goal.loop-init
loop-init g c =
    input_begun g.H.Hands.hands g.H.Keeps.refuses c.args.hands.now (g.I.Read.remaining c.args.input.now) c.new-kept.result c.new-kept.ensures.nothing.0 c.new-kept.ensures.first

pub returns-in-Ok-eq0 : goal.returns-in-Ok-eq0
returns-in-Ok-eq0 g c =
    let none = read_none (g.I.Read.remaining c.loop.input) (g.I.Read.remaining c.read.new.self) c.read.result c.in-Ok-eq0.field-0 c.read.new.buf c.in-Ok-eq0.is c.in-Ok-eq0.field-0-test (omega (arith, c.read.auto.buf)) c.read.ensures.bytes in
    input_done g.H.Hands.hands g.H.Keeps.refuses c.args.hands.now c.loop.hands c.hand_said.new.hands (g.I.Read.remaining c.args.input.now) (g.I.Read.remaining c.loop.input)
    (g.I.Read.remaining c.read.new.self) c.loop.kept c.end.result c.loop.invariant none.0 none.1 c.end.ensures.said c.hand_said.ensures

pub loop-preserved-in-Ok : goal.loop-preserved-in-Ok
loop-preserved-in-Ok g c =
    input_more g.H.Hands.hands g.H.Keeps.refuses c.args.hands.now c.loop.hands c.keep_piece.new.hands (g.I.Read.remaining c.args.input.now) (g.I.Read.remaining c.loop.input)
    (g.I.Read.remaining c.read.new.self) c.loop.kept c.keep_piece.new.kept _ c.loop.invariant c.in-Ok.ensures.bytes.0 c.keep_piece.ensures
