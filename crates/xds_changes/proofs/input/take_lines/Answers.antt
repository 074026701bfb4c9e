use Rattle.std.proofs.Common.{map, arith}
use Rattle.xds_changes.specs.Changes.{change_of}
use Rattle.xds_changes.proofs.Handings.{input_ended, input_refused, read_none, so_far_more, so_far_none}
use Rattle.xds_changes.proofs.input.take_lines.Goals as goal

pub loop-init : goal.loop-init
loop-init g c = so_far_none g.H.Hands.hands c.args.hands.now (g.I.Read.remaining c.args.input.now) _ c.new-held.ensures

pub returns-in-Ok-eq0 : goal.returns-in-Ok-eq0
returns-in-Ok-eq0 g c =
    let none = read_none (g.I.Read.remaining c.loop.input) (g.I.Read.remaining c.read.new.self) c.read.result c.in-Ok-eq0.field-0 c.read.new.buf c.in-Ok-eq0.is c.in-Ok-eq0.field-0-test (omega (arith, c.read.auto.buf)) c.read.ensures.bytes in
    input_ended g.H.Hands.hands c.args.hands.now c.loop.hands c.take_last.new.hands (g.I.Read.remaining c.args.input.now) (g.I.Read.remaining c.loop.input) (g.I.Read.remaining c.read.new.self)
    c.loop.held.bytes.items c.loop.line c.finish.result c.take_last.result c.loop.invariant none.0 none.1 c.finish.ensures c.take_last.ensures

pub loop-preserved-in-Ok-take_changes : goal.loop-preserved-in-Ok-take_changes
loop-preserved-in-Ok-take_changes g c =
    so_far_more g.H.Hands.hands c.args.hands.now c.loop.hands c.take_changes.new.hands (g.I.Read.remaining c.args.input.now) (g.I.Read.remaining c.loop.input) (g.I.Read.remaining c.read.new.self)
    c.loop.held.bytes.items c.take.new.self.bytes.items _ c.loop.line c.in-Ok-take_changes.next c.take.result.lines (map change_of c.take.result.changes.items) c.take.result.refused
    c.loop.invariant c.in-Ok.ensures.bytes.0 c.take.ensures c.in-Ok-take_changes.ensures.handed c.in-Ok-take_changes.ensures.line

pub returns-in-Err-take_changes : goal.returns-in-Err-take_changes
returns-in-Err-take_changes g c =
    input_refused g.H.Hands.hands c.args.hands.now c.loop.hands c.take_changes.new.hands (g.I.Read.remaining c.args.input.now) (g.I.Read.remaining c.loop.input) (g.I.Read.remaining c.read.new.self)
    c.loop.held.bytes.items c.take.new.self.bytes.items _ c.loop.line c.take.result.lines c.in-Err-take_changes.end (map change_of c.take.result.changes.items) c.take.result.refused
    c.loop.invariant c.in-Ok.ensures.bytes.0 c.take.ensures c.in-Err-take_changes.ensures.handed c.in-Err-take_changes.ensures.line
