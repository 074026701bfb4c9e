use Rattle.xds_changes.proofs.KeptLines.{kept_all, kept_more, kept_none}
use Rattle.xds_changes.proofs.keeping.keep_piece.Goals as goal

pub loop-part-init : goal.loop-part-init
loop-part-init g c = kept_none g.H.Hands.hands g.H.Keeps.refuses c.args.hands.now c.args.kept.now c.args.piece.now

pub loop-part-preserved : goal.loop-part-preserved
loop-part-preserved g c =
    kept_more g.H.Hands.hands g.H.Keeps.refuses c.args.hands.now c.loop-part.hands c.hand_said.new.hands c.args.kept.now c.loop-part.kept c.hold.new.self c.end.new.self
    c.args.piece.now c.loop-part.rest.now c.in-Some.part.now c.in-Some.following.now c.end.result c.loop-part.invariant c.in-Some.ensures.split c.hold.ensures.held c.hold.ensures.line
    c.end.ensures.said c.end.ensures.nothing.0 c.end.ensures.line c.hand_said.ensures

pub returns : goal.returns
returns g c =
    kept_all g.H.Hands.hands g.H.Keeps.refuses c.args.hands.now c.loop-part.hands c.args.kept.now c.loop-part.kept c.hold-2.new.self c.args.piece.now c.loop-part.rest.now
    c.loop-part.invariant c.in_default.ensures.last c.hold-2.ensures.held c.hold-2.ensures.line
