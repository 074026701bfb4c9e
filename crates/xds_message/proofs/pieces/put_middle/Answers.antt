use Rattle.std.proofs.Common.{◌++◌, List, ℕ, subst}
use Rattle.xds_frames.specs.Devices.{WrotePart, seen}
use Rattle.xds_frames.specs.Gathering.{Passes}
use Rattle.xds_frames.proofs.Gatherings.{part_behind, part_longer, passes_more}
use Rattle.xds_message.proofs.pieces.put_middle.Goals as goal

pub returns-in-Err-clause-failed : goal.returns-in-Err-clause-failed
returns-in-Err-clause-failed g c =
    let part = subst (λ (t : List ℕ). WrotePart (seen g.W.Write.contents c.args.writer.now c.gather.new.writer) (c.args.block.now.items ++ t)) c.as_bytes.ensures.value c.in-Err.ensures.failed.1 in
    (c.in-Err.ensures.failed.0, part_longer _ c.args.block.now.items _ _ part)

pub returns-in-Err-put_lists-clause-failed : goal.returns-in-Err-put_lists-clause-failed
returns-in-Err-put_lists-clause-failed g c =
    let joined = subst (λ (t : List ℕ). Passes (seen g.W.Write.contents c.args.writer.now c.gather.new.writer) c.args.block.now.items t c.gather.new.block.items) c.as_bytes.ensures.value c.in_default.ensures.put in
    (c.in-Err-put_lists.ensures.failed.0, part_behind _ _ _ _ _ _ _ _ _ _ joined c.in-Err-put_lists.ensures.failed.1)

pub returns-clause-put : goal.returns-clause-put
returns-clause-put g c =
    let joined = subst (λ (t : List ℕ). Passes (seen g.W.Write.contents c.args.writer.now c.gather.new.writer) c.args.block.now.items t c.gather.new.block.items) c.as_bytes.ensures.value c.in_default.ensures.put in
    passes_more _ _ _ _ _ _ _ _ _ _ _ joined c.in_default-put_lists.ensures.put
