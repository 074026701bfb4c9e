use Rattle.std.proofs.Common.{◌≡◌, ◌++◌, List, ℕ, ◌∙◌, subst}
use Rattle.xds_message.specs.Pieces.{comma_before}
use Rattle.xds_frames.specs.Devices.{WrotePart, seen}
use Rattle.xds_frames.specs.Gathering.{Passes}
use Rattle.xds_frames.proofs.Gatherings.{part_behind, part_longer, passes_more}
use Rattle.xds_message.proofs.PieceLemmas.{pieces_of}
use Rattle.xds_message.proofs.pieces.put_item.Goals as goal

pub returns-in-Err-clause-failed : goal.returns-in-Err-clause-failed
returns-in-Err-clause-failed g c =
    let whole : (c.comma.result.now ++ c.as_bytes.result.now) ++ (c.parts-parts.result.body.now ++ c.parts-parts.result.tail.now) ≡ comma_before c.args.later ++ g.S.Stored.text c.args.item.now =
    (λ i. (c.comma.ensures i ++ c.as_bytes.ensures.value i) ++ (c.parts-parts.result.body.now ++ c.parts-parts.result.tail.now)) ∙ pieces_of (comma_before c.args.later) c.parts-parts.result.head.now c.parts-parts.result.body.now c.parts-parts.result.tail.now (g.S.Stored.text c.args.item.now) c.parts-parts.ensures in (
      c.in-Err.ensures.failed.0,
      subst (λ (t : List ℕ). WrotePart (seen g.W.Write.contents c.args.writer.now c.put_two.new.writer) (c.args.block.now.items ++ t)) whole
          (part_longer _ c.args.block.now.items _ (c.parts-parts.result.body.now ++ c.parts-parts.result.tail.now) c.in-Err.ensures.failed.1),
    )

pub returns-in-Err-put_two-clause-failed : goal.returns-in-Err-put_two-clause-failed
returns-in-Err-put_two-clause-failed g c =
    let whole : (c.comma.result.now ++ c.as_bytes.result.now) ++ (c.as_bytes-2.result.now ++ c.as_bytes-3.result.now) ≡ comma_before c.args.later ++ g.S.Stored.text c.args.item.now =
    (λ i. (c.comma.ensures i ++ c.as_bytes.ensures.value i) ++ (c.as_bytes-2.ensures.value i ++ c.as_bytes-3.ensures.value i)) ∙ pieces_of (comma_before c.args.later) c.parts-parts.result.head.now c.parts-parts.result.body.now c.parts-parts.result.tail.now (g.S.Stored.text c.args.item.now) c.parts-parts.ensures in (
      c.in-Err-put_two.ensures.failed.0,
      subst (λ (t : List ℕ). WrotePart (seen g.W.Write.contents c.args.writer.now c.put_two-2.new.writer) (c.args.block.now.items ++ t)) whole
          (part_behind _ _ _ _ _ _ _ _ _ _ c.in_default.ensures.put c.in-Err-put_two.ensures.failed.1),
    )

pub returns-clause-put : goal.returns-clause-put
returns-clause-put g c =
    let whole : (c.comma.result.now ++ c.as_bytes.result.now) ++ (c.as_bytes-2.result.now ++ c.as_bytes-3.result.now) ≡ comma_before c.args.later ++ g.S.Stored.text c.args.item.now =
    (λ i. (c.comma.ensures i ++ c.as_bytes.ensures.value i) ++ (c.as_bytes-2.ensures.value i ++ c.as_bytes-3.ensures.value i)) ∙ pieces_of (comma_before c.args.later) c.parts-parts.result.head.now c.parts-parts.result.body.now c.parts-parts.result.tail.now (g.S.Stored.text c.args.item.now) c.parts-parts.ensures in
    subst (λ (t : List ℕ). Passes (seen g.W.Write.contents c.args.writer.now c.put_two-2.new.writer) c.args.block.now.items t c.put_two-2.new.block.items) whole
    (passes_more _ _ _ _ _ _ _ _ _ _ _ c.in_default.ensures.put c.in_default-put_two.ensures.put)
