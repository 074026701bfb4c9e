use Rattle.std.proofs.Common.{sym, ap, ◌∙◌}
use Rattle.std.specs.FinMap as finmap
use Rattle.xds_catalogue.proofs.ByNumbers.{put_entries, made_again}
use Rattle.xds_core.proofs.replica.copy_streams.Goals as goal

pub returns-clause-ok : goal.returns-clause-ok
returns-clause-ok c =
    ap (put_entries c.loop-number.copies) (sym c.in-None.ensures.steps.0) ∙ c.loop-number.invariant ∙ ap (λ m. put_entries m (finmap.entries c.args.streams.now)) c.new-copies.ensures ∙ made_again c.args.streams.now
