use Rattle.std.proofs.Common.{◌++◌, List, ℕ, drop, length-drop, subst, arith}
use Rattle.xds_message.specs.Pieces.{comma_before}
use Rattle.xds_message.specs.Unsent.{IsFrontOf}
use Rattle.xds_message.proofs.UnsentLemmas.{positive, put_behind}
use Rattle.xds_message.proofs.filling.put_some.Goals as goal

pub returns-clause-put : goal.returns-clause-put
returns-clause-put g c =
    let whole : List ℕ = comma_before c.args.later ++ g.S.Stored.text c.args.item.now in
    let front : IsFrontOf c.piece_at-piece.result.now (drop c.args.offset whole) =
    subst (λ (l : List ℕ). IsFrontOf c.piece_at-piece.result.now (drop c.args.offset l)) (λ i. c.comma.ensures i ++ c.parts.ensures i) c.piece_at-piece.ensures in
    let some = positive c.put_front.result c.piece_at-piece.result.now c.put_front.ensures.some c.if-is_empty.ensures in (
      omega (arith, some),
      omega (arith, c.put_front.ensures.fits, front.fits, length-drop c.args.offset whole, c.requires.fits),
      put_behind c.args.block.now.items c.put_front.new.block.items c.piece_at-piece.result.now whole c.args.offset c.put_front.result front c.put_front.ensures.fits c.put_front.ensures.put,
    )
