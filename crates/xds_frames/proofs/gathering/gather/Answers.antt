use Rattle.std.proofs.Common.{subst}
use Rattle.std.specs.Io.KnownBytes.{Appends}
use Rattle.xds_frames.proofs.Gatherings.{part_behind_held, passes_both}
use Rattle.xds_frames.proofs.gathering.gather.Goals as goal

pub returns-in-Err-write_bytes-clause-failed : goal.returns-in-Err-write_bytes-clause-failed
returns-in-Err-write_bytes-clause-failed g c =
    let wrote = subst (Appends _ _) c.as_slice.ensures.value c.in_default.ensures.written in
    (c.in-Err-write_bytes.ensures.failed.0, part_behind_held _ _ _ _ _ _ c.args.block.now.items c.args.bytes.now wrote c.in_default.ensures.none_failed c.in-Err-write_bytes.ensures.failed.1)

pub returns-then-bytes-capacity-2-clause-put : goal.returns-then-bytes-capacity-2-clause-put
returns-then-bytes-capacity-2-clause-put g c =
    let wrote = subst (Appends _ _) c.as_slice.ensures.value c.in_default.ensures.written in
    passes_both _ _ _ _ _ _ c.args.block.now.items c.args.bytes.now _ wrote c.in_default.ensures.none_failed c.in_default-write_bytes.ensures.written c.in_default-write_bytes.ensures.none_failed c.clear.ensures.items
