use Rattle.std.proofs.Common.{[], ◌++◌, length, map, refl}
use Rattle.xds_script.specs.Lines.{feed, pieces}
use Rattle.xds_changes.specs.Changes.{change_of}
use Rattle.xds_changes.proofs.Takings.{taken_more, taken_refused}
use Rattle.xds_changes.proofs.held_line.HeldLine.take.Goals as goal

pub returns-in-Err : goal.returns-in-Err
returns-in-Err c =
    taken_refused (c.args.self.now.bytes.items ++ c.args.piece.now) c.loop-part.self.bytes.items c.loop-part.rest.now c.in-Some.part.now (pieces feed c.in-Some.following.now) (map change_of c.loop-part.changes.items) _
    c.loop-part.lines (length c.args.piece.now) c.in-Err.refusal c.loop-part.invariant c.loop-part.self.one c.in-Some.ensures.split c.in-Err.ensures.err c.in-Err.ensures.refused

pub loop-part-preserved : goal.loop-part-preserved
loop-part-preserved c =
    taken_more (c.args.self.now.bytes.items ++ c.args.piece.now) c.loop-part.self.bytes.items c.loop-part.rest.now c.in-Some.part.now c.in-Some.following.now _ (map change_of c.loop-part.changes.items) _
    c.loop-part.lines (length c.args.piece.now) c.loop-part.invariant c.loop-part.self.one c.in-Some.ensures.split c.in-Some.ensures.shorter c.take_line.ensures.held
    c.in_default-take_line.ensures.good c.in_default-take_line.ensures.brought

pub returns-in-Err-keep : goal.returns-in-Err-keep
returns-in-Err-keep c =
    taken_refused (c.args.self.now.bytes.items ++ c.args.piece.now) c.loop-part.self.bytes.items c.loop-part.rest.now c.loop-part.rest.now [] (map change_of c.loop-part.changes.items) _
    c.loop-part.lines (length c.args.piece.now) c.in-Err-keep.refusal c.loop-part.invariant c.loop-part.self.one c.in_default.ensures.last refl c.in-Err-keep.ensures.refused
