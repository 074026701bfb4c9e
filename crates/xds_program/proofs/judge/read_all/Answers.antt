use Rattle.xds_program.proofs.JudgedInput.{so_far_none, so_far_some, so_far_more, unread_so_far, passed_on}
use Rattle.xds_program.proofs.judge.read_all.Goals as goal

pub loop-init : goal.loop-init
loop-init g c = so_far_none (g.I.Read.remaining c.args.input.now.inner) c.args.checker.now c.requires

pub read_piece-requires : goal.read_piece-requires
read_piece-requires g c = so_far_some (g.I.Read.remaining c.args.input.now.inner) (g.I.Read.remaining c.loop.input.inner) c.loop.checker c.loop.invariant

pub returns-in_err-read_piece-clause-refused : goal.returns-in_err-read_piece-clause-refused
returns-in_err-read_piece-clause-refused g c =
    passed_on _ c.from_residual.result c.in_err-read_piece.field-0.0 c.from_residual.ensures.1
    (unread_so_far (g.I.Read.remaining c.args.input.now.inner) (g.I.Read.remaining c.loop.input.inner) c.loop.checker c.args.before c.read_piece.new.input.failed c.in_err-read_piece.field-0.0 c.loop.invariant c.in_err-read_piece.ensures.refused)

pub loop-preserved : goal.loop-preserved
loop-preserved g c =
    so_far_more (g.I.Read.remaining c.args.input.now.inner) (g.I.Read.remaining c.loop.input.inner) (g.I.Read.remaining c.read_piece.new.input.inner) c.loop.checker c.read_piece.new.checker c.loop.invariant (c.in_ok-read_piece.ensures.more c.if-branch.true)
