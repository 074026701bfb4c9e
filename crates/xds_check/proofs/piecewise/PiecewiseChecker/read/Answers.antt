use Rattle.std.proofs.Common.{◌+◌, ◌++◌, ap, sym, ◌∙◌, refl, subst, ℕ}
use Rattle.xds_resource.specs.declared.refusal.Refusal.{Refusal}
use Rattle.xds_check.specs.Texts.{IsRefusedAt}
use Rattle.xds_check.proofs.PieceByPiece.{piece_some, piece_more, piece_all, piece_bad}
use Rattle.xds_check.proofs.piecewise.PiecewiseChecker.read.Goals as goal

pub end_line-requires-clause-some : goal.end_line-requires-clause-some
end_line-requires-clause-some c = piece_some c.args.piece.now c.loop-part.rest.now c.args.self.now c.loop-part.self c.loop-part.invariant c.requires

pub returns-in-Err-clause-refused : goal.returns-in-Err-clause-refused
returns-in-Err-clause-refused c = λ bytes following r.
    let now = c.loop-part.self in
    let bytes_all = bytes ++ c.args.piece.now ++ following in
    let bad = piece_bad c.args.piece.now c.loop-part.rest.now c.in-Some.part.now c.in-Some.following.now c.args.self.now now (now.checker.taken + 1) c.in-Err.refusal c.loop-part.invariant c.in-Some.ensures.split.0 c.in-Err.ensures.refused bytes following r in
    let number = c.fault.ensures.line ∙ ap (λ n. n + 1) c.in-Err.ensures.count in
    subst (λ (e : Refusal). IsRefusedAt bytes_all c.fault.result.line e) (sym c.fault.ensures.refusal) (subst (λ (n : ℕ). IsRefusedAt bytes_all n c.in-Err.refusal) (sym number) bad)

pub loop-part-preserved : goal.loop-part-preserved
loop-part-preserved c =
    piece_more c.args.piece.now c.loop-part.rest.now c.in-Some.part.now c.in-Some.following.now c.args.self.now c.loop-part.self c.end_line.new.self c.loop-part.invariant c.in-Some.ensures.split.0 c.in_default-end_line.ensures.read

pub returns-in-Ok-clause-read : goal.returns-in-Ok-clause-read
returns-in-Ok-clause-read c =
    piece_all c.args.piece.now c.loop-part.rest.now c.args.self.now c.loop-part.self (record { checker = c.loop-part.self.checker; held = c.extend_from_slice.new.self }) c.loop-part.invariant c.in_default.ensures.last refl c.in-Ok.ensures.items
