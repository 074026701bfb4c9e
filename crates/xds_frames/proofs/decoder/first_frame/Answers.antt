use Rattle.std.proofs.Common.{sym, ◌≡◌, ◌-◌, ◌∷◌, ap, ◌∙◌, drop, arith}
use Rattle.xds_frames.specs.Frames.{number_of, after_length}
use Rattle.xds_frames.proofs.Fronts.{whole}
use Rattle.xds_frames.proofs.decoder.first_frame.Goals as goal

pub returns : goal.returns
returns c =
    let n = c.in-Some.length in
    let text = c.in-Some-split_first.text.now in
    let kind = c.in-Some-from_number.kind in
    let behind : c.in-Some.body.now ≡ number_of kind ∷ text = c.in-Some-split_first.ensures.cases.0 ∙ ap (λ k. k ∷ text) (sym c.in-Some-from_number.ensures.kind) in
    (drop (n - 1) text, whole c.args.bytes.now text n kind (c.in-Some.ensures.some.1 ∙ ap (after_length n) behind) (omega arith, omega arith) c.if-text-length.false)
