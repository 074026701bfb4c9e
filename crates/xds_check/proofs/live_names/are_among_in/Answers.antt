use Rattle.std.proofs.Common.{Option, sym, ap, ◌∙◌}
use Rattle.std.specs.Prelude.{unwrap_or}
use Rattle.std.specs.FinMap as finmap
use Rattle.xds_check.specs.Kept.{Marks}
use Rattle.xds_check.specs.LiveNames.{are_among}
use Rattle.xds_check.proofs.LiveNames.{empty_among}
use Rattle.xds_check.proofs.live_names.are_among_in.Goals as goal

pub returns-in-None : goal.returns-in-None
returns-in-None c = sym (empty_among c.args.others.now) ∙ ap (λ (o : Option Marks). are_among (unwrap_or o finmap.empty) c.args.others.now) c.in-None.ensures
