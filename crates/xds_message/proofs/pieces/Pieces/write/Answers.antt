use Rattle.std.proofs.Common.{◌++◌, List, ℕ, map, string_bytes, subst}
use Rattle.std.specs.Io.KnownBytes.{Appends}
use Rattle.xds_message.specs.Drafts.{body_text}
use Rattle.xds_message.specs.Joined.{with_commas}
use Rattle.xds_message.specs.Pieces.{resource_text}
use Rattle.xds_frames.specs.Devices.{Wrote, WrotePart, seen}
use Rattle.xds_frames.specs.Gathering.{Passes}
use Rattle.xds_message.proofs.PieceLemmas.{all_passes, bodies_part, head_part, last_part, tail_part, whole_wrote}
use Rattle.xds_message.proofs.pieces.Pieces.write.Goals as goal

pub returns-in-Err-clause-failed : goal.returns-in-Err-clause-failed
returns-in-Err-clause-failed g c =
    let head = subst (λ (t : List ℕ). WrotePart (seen g.W.Write.contents c.args.writer.now c.gather.new.writer) (c.args.block.items ++ t)) c.as_bytes.ensures.value c.in-Err.ensures.failed.1 in (
      c.in-Err.ensures.failed.0,
      subst (λ (t : List ℕ). WrotePart (seen g.W.Write.contents c.args.writer.now c.gather.new.writer) (c.args.block.items ++ t)) c.self.view_is
          (head_part _ c.args.block.items (string_bytes c.self.inside.head) (c.self.inside.joined.now ++ (with_commas (map resource_text c.self.inside.resources.now) ++ with_commas (map body_text c.self.inside.bodies.now))) (string_bytes c.self.inside.tail) head),
    )

pub returns-in-Err-put_middle-clause-failed : goal.returns-in-Err-put_middle-clause-failed
returns-in-Err-put_middle-clause-failed g c =
    let head = subst (λ (t : List ℕ). Passes (seen g.W.Write.contents c.args.writer.now c.gather.new.writer) c.args.block.items t c.gather.new.block.items) c.as_bytes.ensures.value c.in_default.ensures.put in (
      c.in-Err-put_middle.ensures.failed.0,
      subst (λ (t : List ℕ). WrotePart (seen g.W.Write.contents c.args.writer.now c.put_middle.new.writer) (c.args.block.items ++ t)) c.self.view_is
          (bodies_part _ _ _ _ _ _ c.args.block.items _ _ (string_bytes c.self.inside.tail) _ head c.in-Err-put_middle.ensures.failed.1),
    )

pub returns-in-Err-gather-clause-failed : goal.returns-in-Err-gather-clause-failed
returns-in-Err-gather-clause-failed g c =
    let head = subst (λ (t : List ℕ). Passes (seen g.W.Write.contents c.args.writer.now c.gather.new.writer) c.args.block.items t c.gather.new.block.items) c.as_bytes.ensures.value c.in_default.ensures.put in
    let part = subst (λ (t : List ℕ). WrotePart (seen g.W.Write.contents c.put_middle.new.writer c.gather-2.new.writer) (c.put_middle.new.block.items ++ t)) c.as_bytes-2.ensures.value c.in-Err-gather.ensures.failed.1 in (
      c.in-Err-gather.ensures.failed.0,
      subst (λ (t : List ℕ). WrotePart (seen g.W.Write.contents c.args.writer.now c.gather-2.new.writer) (c.args.block.items ++ t)) c.self.view_is
          (tail_part _ _ _ _ _ _ _ _ c.args.block.items _ _ _ _ _ head c.in_default-put_middle.ensures.put part),
    )

pub returns-in-Err-write_bytes-clause-failed : goal.returns-in-Err-write_bytes-clause-failed
returns-in-Err-write_bytes-clause-failed g c =
    let head = subst (λ (t : List ℕ). Passes (seen g.W.Write.contents c.args.writer.now c.gather.new.writer) c.args.block.items t c.gather.new.block.items) c.as_bytes.ensures.value c.in_default.ensures.put in
    let tail = subst (λ (t : List ℕ). Passes (seen g.W.Write.contents c.put_middle.new.writer c.gather-2.new.writer) c.put_middle.new.block.items t c.gather-2.new.block.items) c.as_bytes-2.ensures.value c.in_default-gather.ensures.put in
    let all = all_passes _ _ _ _ _ _ _ _ c.args.block.items _ _ _ _ _ _ head c.in_default-put_middle.ensures.put tail in
    let part = subst (λ (t : List ℕ). WrotePart (seen g.W.Write.contents c.gather-2.new.writer c.write_bytes.new.writer) t) c.as_slice.ensures.value c.in-Err-write_bytes.ensures.failed.1 in (
      c.in-Err-write_bytes.ensures.failed.0,
      subst (λ (t : List ℕ). WrotePart (seen g.W.Write.contents c.args.writer.now c.write_bytes.new.writer) (c.args.block.items ++ t)) c.self.view_is (last_part _ _ _ _ _ _ _ _ _ all part),
    )

pub returns-clause-written : goal.returns-clause-written
returns-clause-written g c =
    let head = subst (λ (t : List ℕ). Passes (seen g.W.Write.contents c.args.writer.now c.gather.new.writer) c.args.block.items t c.gather.new.block.items) c.as_bytes.ensures.value c.in_default.ensures.put in
    let tail = subst (λ (t : List ℕ). Passes (seen g.W.Write.contents c.put_middle.new.writer c.gather-2.new.writer) c.put_middle.new.block.items t c.gather-2.new.block.items) c.as_bytes-2.ensures.value c.in_default-gather.ensures.put in
    let all = all_passes _ _ _ _ _ _ _ _ c.args.block.items _ _ _ _ _ _ head c.in_default-put_middle.ensures.put tail in
    let wrote = subst (Appends _ _) c.as_slice.ensures.value c.in_default-write_bytes.ensures.written in
    subst (λ (t : List ℕ). Wrote (seen g.W.Write.contents c.args.writer.now c.write_bytes.new.writer) (c.args.block.items ++ t)) c.self.view_is (whole_wrote _ _ _ _ _ _ _ _ all wrote)
